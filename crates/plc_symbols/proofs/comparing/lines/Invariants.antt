use Rattle.std.proofs.Common.{◌≡◌, take}
use Rattle.std.specs.List.{flat_map}
use Rattle.plc_symbols.specs.Compared.{variable_line}
use Rattle.plc_symbols.proofs.comparing.lines.Given as goal

abbrev pub invariant-loop-variable : goal.invariant-loop-variable
invariant-loop-variable l = l.text.items ≡ flat_map (variable_line l.old) (take l.variable-index l.new)
