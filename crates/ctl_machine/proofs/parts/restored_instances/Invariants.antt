use Rattle.std.proofs.Common.{◌≡◌, take, map}
use Rattle.ctl_model.specs.Snapshots.{saved_instance}
use Rattle.ctl_machine.specs.Kept.{AreLawful}
use Rattle.ctl_machine.proofs.parts.restored_instances.Given as goal

abbrev pub invariant-loop-x : goal.invariant-loop-x
invariant-loop-x l = record {
  restored : map saved_instance l.instances.items ≡ take l.x-index l.saved;
  lawful : AreLawful l.instances.items;
}
