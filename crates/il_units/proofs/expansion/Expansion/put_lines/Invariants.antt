use Rattle.std.proofs.Common.{◌≡◌, ◌++◌, [], suc, map, take, drop, length}
use Rattle.std.specs.List.{flat_map}
use Rattle.il_units.specs.Expansion.{with_pieces, line_pieces}
use Rattle.il_units.proofs.expansion.Expansion.put_lines.Given as goal

abbrev pub invariant-loop-line : goal.invariant-loop-line
invariant-loop-line l = l.out ≡ with_pieces l.fn.self (flat_map line_pieces (take l.line-index l.lines))
