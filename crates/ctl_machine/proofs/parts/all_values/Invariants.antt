use Rattle.std.proofs.Common.{◌≡◌, ◌++◌, drop}
use Rattle.ctl_machine.specs.Kept.{all_values}
use Rattle.ctl_machine.proofs.parts.all_values.Given as goal

abbrev pub invariant-loop-variable : goal.invariant-loop-variable
invariant-loop-variable l = l.values.items ++ all_values (drop l.variable-index l.variables) l.rest ≡ all_values l.variables l.own
