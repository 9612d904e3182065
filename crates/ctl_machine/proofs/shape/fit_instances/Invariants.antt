use Rattle.std.proofs.Common.{◌≡◌, take, true}
use Rattle.ctl_model.specs.Snapshots.{fits_instance}
use Rattle.ctl_machine.proofs.Zipped.{zipped}
use Rattle.ctl_machine.proofs.shape.fit_instances.Given as goal

abbrev pub invariant-loop-i : goal.invariant-loop-i
invariant-loop-i l = zipped fits_instance (take l.i l.declared) (take l.i l.saved) ≡ true
