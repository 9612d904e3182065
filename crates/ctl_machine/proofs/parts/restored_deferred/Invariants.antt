use Rattle.std.proofs.Common.{◌≡◌, take}
use Rattle.ctl_machine.proofs.parts.restored_deferred.Given as goal

abbrev pub invariant-loop-x : goal.invariant-loop-x
invariant-loop-x l = l.kept.items ≡ take l.x-index l.deferred
