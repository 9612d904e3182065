use Rattle.std.proofs.Common.{◌≡◌, ◌++◌, [], suc, map, take, drop, length}
use Rattle.il_reader.specs.Grammar.{operand}
use Rattle.il_units.specs.Choices.{type_of_choice}
use Rattle.il_units.proofs.choices.type_of_choice.Given as goal

abbrev pub invariant-loop-rest : goal.invariant-loop-rest
invariant-loop-rest l = type_of_choice l.scope.above.now l.scope.members.now (map operand l.rest) ≡ type_of_choice l.scope.above.now l.scope.members.now (map operand l.others)

abbrev pub decreases-loop-rest : goal.decreases-loop-rest
decreases-loop-rest l = length l.rest
