use Rattle.std.proofs.Common.{take}
use Rattle.ctl_machine.specs.Kept.{HaveBlocks}
use Rattle.ctl_machine.proofs.shape.have_states.Given as goal

abbrev pub invariant-loop-x : goal.invariant-loop-x
invariant-loop-x l = HaveBlocks (take l.x-index l.instances)
