use Rattle.std.proofs.Common.{◌≡◌, ◌++◌, [], suc, map, take, drop, length}
use Rattle.il_units.specs.Words.{placed_line, placing}
use Rattle.il_units.proofs.calls.push_body.Given as goal

abbrev pub invariant-loop-line : goal.invariant-loop-line
invariant-loop-line l = l.lines.items ≡ l.fn.lines.items ++ map (placed_line (placing l.at)) (take l.line-index l.line-items)
