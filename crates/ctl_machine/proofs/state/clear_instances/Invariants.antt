use Rattle.std.proofs.Common.{◌≡◌, take, map, length}
use Rattle.ctl_model.specs.State.{cold_instance}
use Rattle.ctl_machine.proofs.state.clear_instances.Given as goal

abbrev pub invariant-loop-i : goal.invariant-loop-i
invariant-loop-i l = record { done : take l.i l.instances.items ≡ map cold_instance (take l.i l.declared); same : length l.instances.items ≡ length l.declared }
