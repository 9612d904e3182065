use Rattle.std.proofs.Common.{◌≡◌, drop}
use Rattle.ctl_model.proofs.Rising.{forces_from}
use Rattle.ctl_model.specs.Snapshots.{fit_forces}
use Rattle.ctl_debugger.proofs.shape.fit_forces.Given as goal

abbrev pub invariant-loop-forced : goal.invariant-loop-forced
invariant-loop-forced l = forces_from l.least (drop l.forced-index l.forces) ≡ fit_forces l.forces
