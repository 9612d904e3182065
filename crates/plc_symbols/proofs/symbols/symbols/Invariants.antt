use Rattle.std.proofs.Common.{◌≡◌, ◌++◌, codes, take}
use Rattle.std.specs.List.{flat_map}
use Rattle.plc_symbols.specs.Symbols.{symbol_line}
use Rattle.plc_symbols.proofs.symbols.symbols.Given as goal

abbrev pub invariant-loop-variable : goal.invariant-loop-variable
invariant-loop-variable l = l.text.items ≡ codes "name,type,place,table,address\n" ++ flat_map symbol_line (take l.variable-index l.image.variables)
