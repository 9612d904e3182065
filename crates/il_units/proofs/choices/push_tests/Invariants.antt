use Rattle.std.proofs.Common.{◌≡◌, ◌++◌, [], suc, map, take, drop, length}
use Rattle.il_reader.specs.Grammar.{operand}
use Rattle.il_units.specs.Choices.{tests_from}
use Rattle.il_units.proofs.choices.push_tests.Given as goal

abbrev pub invariant-loop-n : goal.invariant-loop-n
invariant-loop-n l = l.lines.items ++ tests_from l.call l.left l.n (map operand (drop l.n l.others)) ≡ l.fn.lines.items ++ tests_from l.call l.left 0 (map operand l.others)
