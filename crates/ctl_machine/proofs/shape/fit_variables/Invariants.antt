use Rattle.std.proofs.Common.{◌≡◌, drop}
use Rattle.ctl_model.specs.Snapshots.{own_types, are_types}
use Rattle.ctl_machine.proofs.shape.fit_variables.Given as goal

abbrev pub invariant-loop-variable : goal.invariant-loop-variable
invariant-loop-variable l = are_types l.rest (own_types (drop l.variable-index l.variables)) ≡ are_types l.values (own_types l.variables)
