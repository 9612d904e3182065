use Rattle.std.proofs.Common.{◌≡◌, take, map}
use Rattle.il_model.specs.declared.program.Variable.{Variable}
use Rattle.ctl_machine.proofs.state.firsts.Given as goal

abbrev pub invariant-loop-variable : goal.invariant-loop-variable
invariant-loop-variable l = l.own.items ≡ map (λ (v : Variable). v.initial) (take l.variable-index l.variables)
