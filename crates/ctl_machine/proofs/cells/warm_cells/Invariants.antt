use Rattle.std.proofs.Common.{◌≡◌, drop, map}
use Rattle.il_model.specs.declared.program.Variable.{Variable}
use Rattle.ctl_model.specs.State.{with_firsts}
use Rattle.ctl_model.specs.Warm.{warm_first, warm_cells}
use Rattle.ctl_machine.proofs.cells.warm_cells.Given as goal

abbrev pub invariant-loop-variable : goal.invariant-loop-variable
invariant-loop-variable l = with_firsts l.area l.cells (map (λ (v : Variable). record v { initial = warm_first l.old v }) (drop l.variable-index l.variables)) ≡ warm_cells l.area l.old l.variables
