use Rattle.std.proofs.Common.{◌≡◌, take, map, length}
use Rattle.ctl_model.specs.Changes.{carried_instance}
use Rattle.ctl_machine.proofs.carrying.carry_instances.Given as goal

abbrev pub invariant-loop-i : goal.invariant-loop-i
invariant-loop-i l = record { done : take l.i l.states.items ≡ map (carried_instance l.image.instances l.instances) (take l.i l.new); same : length l.states.items ≡ length l.new }
