use Rattle.std.proofs.Common.{◌≡◌, take, map, length}
use Rattle.il_model.specs.declared.program.Variable.{Variable}
use Rattle.ctl_machine.proofs.state.copy_firsts.Given as goal

abbrev pub invariant-loop-i : goal.invariant-loop-i
invariant-loop-i l = record { done : take l.i l.own.items ≡ map (λ (v : Variable). v.initial) (take l.i l.variables); same : length l.own.items ≡ length l.variables }
