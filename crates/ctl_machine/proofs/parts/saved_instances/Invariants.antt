use Rattle.std.proofs.Common.{◌≡◌, take, map}
use Rattle.ctl_model.specs.Snapshots.{saved_instance}
use Rattle.ctl_machine.specs.Kept.{AreLawful}
use Rattle.ctl_machine.proofs.parts.saved_instances.Given as goal

abbrev pub invariant-loop-x : goal.invariant-loop-x
invariant-loop-x l = record {
  saved : l.saved.items ≡ map saved_instance (take l.x-index l.instances);
  lawful : AreLawful (take l.x-index l.instances);
}
