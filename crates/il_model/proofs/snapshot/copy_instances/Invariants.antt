use Rattle.std.proofs.Common.{◌≡◌, take}
use Rattle.il_model.proofs.snapshot.copy_instances.Given as goal

abbrev pub invariant-loop-x : goal.invariant-loop-x
invariant-loop-x l = l.copied.items ≡ take l.x-index l.instances
