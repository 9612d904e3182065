use Rattle.std.proofs.Common.{◌≡◌, take, map}
use Rattle.ctl_model.specs.State.{cold_instance}
use Rattle.ctl_machine.proofs.state.cold_instances.Given as goal

abbrev pub invariant-loop-x : goal.invariant-loop-x
invariant-loop-x l = l.instances.items ≡ map cold_instance (take l.x-index l.declared)
