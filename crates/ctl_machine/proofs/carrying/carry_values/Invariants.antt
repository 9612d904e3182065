use Rattle.std.proofs.Common.{◌≡◌, take, map, length}
use Rattle.ctl_model.specs.Changes.{carried_value}
use Rattle.ctl_machine.proofs.carrying.carry_values.Given as goal

abbrev pub invariant-loop-i : goal.invariant-loop-i
invariant-loop-i l = record { done : take l.i l.own.items ≡ map (carried_value l.image.variables l.values) (take l.i l.new); same : length l.own.items ≡ length l.new }
