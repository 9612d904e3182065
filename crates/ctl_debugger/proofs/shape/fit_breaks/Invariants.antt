use Rattle.std.proofs.Common.{◌≡◌, drop}
use Rattle.ctl_model.proofs.Rising.{breaks_from}
use Rattle.ctl_model.specs.Snapshots.{fit_breaks}
use Rattle.ctl_debugger.proofs.shape.fit_breaks.Given as goal

abbrev pub invariant-loop-position : goal.invariant-loop-position
invariant-loop-position l = breaks_from l.least l.fn.end (drop l.position-index l.positions) ≡ fit_breaks l.fn.end l.positions
