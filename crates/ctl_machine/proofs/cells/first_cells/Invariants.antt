use Rattle.std.proofs.Common.{◌≡◌, drop}
use Rattle.ctl_model.specs.State.{with_firsts, first_cells}
use Rattle.ctl_machine.proofs.cells.first_cells.Given as goal

abbrev pub invariant-loop-variable : goal.invariant-loop-variable
invariant-loop-variable l = with_firsts l.area l.cells (drop l.variable-index l.variables) ≡ first_cells l.area l.variables
