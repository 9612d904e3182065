use Rattle.std.proofs.Common.{◌≡◌, ◌++◌, drop}
use Rattle.ctl_model.specs.Snapshots.{own_values}
use Rattle.ctl_machine.proofs.parts.own_values.Given as goal

abbrev pub invariant-loop-variable : goal.invariant-loop-variable
invariant-loop-variable l = l.own.items ++ own_values (drop l.variable-index l.variables) l.rest ≡ own_values l.variables l.values
