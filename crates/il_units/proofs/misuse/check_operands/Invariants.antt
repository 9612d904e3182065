use Rattle.std.proofs.Common.{◌≡◌, map, drop, false}
use Rattle.il_reader.specs.Grammar.{operand}
use Rattle.il_units.specs.Expansion.{scope_text}
use Rattle.il_units.specs.Misuse.{first_fault, operand_fault}
use Rattle.il_units.proofs.misuse.check_operands.Given as goal

abbrev pub invariant-loop-x : goal.invariant-loop-x
invariant-loop-x l = first_fault (operand_fault (scope_text l.scope) false) (map operand (drop l.x-index l.xs)) ≡ first_fault (operand_fault (scope_text l.scope) false) (map operand l.xs)
