use Rattle.std.proofs.Common.{◌≡◌, ◌++◌, [], suc, map, take, drop, length}
use Rattle.il_reader.specs.Grammar.{operand}
use Rattle.il_units.specs.Choices.{cases_from}
use Rattle.il_units.proofs.choices.push_values.Given as goal

abbrev pub invariant-loop-n : goal.invariant-loop-n
invariant-loop-n l = l.lines.items ++ cases_from l.scope.members.now l.call l.ty l.left l.n (map operand (drop l.n l.others)) ≡ l.fn.lines.items ++ cases_from l.scope.members.now l.call l.ty l.left 0 (map operand l.others)
