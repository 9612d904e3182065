use Rattle.std.proofs.Common.{◌≡◌, take, map}
use Rattle.std.specs.List.{flat_map}
use Rattle.plc_page.specs.Outputs.{declared_output, spelt}
use Rattle.plc_page.proofs.outputs.declared.Given as goal

abbrev pub invariant-loop-variable : goal.invariant-loop-variable
invariant-loop-variable l = map spelt l.names.items ≡ flat_map declared_output (take l.variable-index l.variables)
