use Rattle.std.proofs.Common.{◌≡◌, take}
use Rattle.ctl_machine.proofs.instance.restored_inputs.Given as goal

abbrev pub invariant-loop-value : goal.invariant-loop-value
invariant-loop-value l = l.inputs.items ≡ take l.value-index l.values
