use Rattle.std.proofs.Common.{◌≡◌, take}
use Rattle.std.specs.List.{flat_map}
use Rattle.plc_symbols.specs.Compared.{ended_line}
use Rattle.plc_symbols.proofs.comparing.lines_of_ended.Given as goal

abbrev pub invariant-loop-variable : goal.invariant-loop-variable
invariant-loop-variable l = l.text.items ≡ flat_map (ended_line l.new) (take l.variable-index l.old)
