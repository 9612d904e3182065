-- The constants of a program, in the order of their first use.
use Rattle.std.specs.Prelude.{ℕ, suc, Bool, false, List, [], ◌∷◌, ◌++◌, map, Option, Some, None, is_some, nat_lt, pos}
use Rattle.std.specs.Prelude.{nat_eq, if◌then◌else◌}
use Rattle.std.specs.List.{position, flat_map}
use Rattle.il_values.specs.declared.value.Value.{Value}
use Rattle.il_values.specs.declared.value.Value.TheVariants as values
use Rattle.il_model.specs.declared.program.Instr.{Instr}
use Rattle.il_model.specs.declared.program.Argument.{Argument}
use Rattle.il_model.specs.declared.program.Operand.{Operand}
use Rattle.il_model.specs.declared.program.Operand.TheVariants as operands
use Rattle.il_values.specs.Operators.{same_truth, same_number}
use Rattle.il_model.specs.Program.{Program}

-- of one type, with one number
abbrev pub same_value : Value → Value → Bool
same_value (values.Bool a) (values.Bool b) = same_truth a b
same_value (values.Int a) (values.Int b) = same_number a b
same_value (values.Dint a) (values.Dint b) = same_number a b
same_value (values.Lint a) (values.Lint b) = same_number a b
same_value (values.Time a) (values.Time b) = same_number a b
same_value (values.Real a) (values.Real b) = same_number (pos a.pattern) (pos b.pattern)
same_value (values.Word a) (values.Word b) = same_number (pos a) (pos b)
same_value (values.Dword a) (values.Dword b) = same_number (pos a) (pos b)
same_value a b = false

abbrev pub operand_literal : Operand → Option Value
operand_literal (operands.Literal v) = Some v
operand_literal operand = None

-- a constant is put behind the others where it is new; same is the test of values
abbrev pub joined_constants : (Value → Value → Bool) → List Value → Option Value → List Value
joined_constants same seen None = seen
joined_constants same seen (Some v) = if is_some (position (same v) seen) then seen else seen ++ v ∷ []

abbrev pub constants_from : (Value → Value → Bool) → List Value → List Operand → List Value
constants_from same seen [] = seen
constants_from same seen (o ∷ os) = constants_from same (joined_constants same seen (operand_literal o)) os

-- the operand of an instruction, then those of its arguments
abbrev pub operands_in : Instr → List Operand
operands_in line = line.operand ∷ map (λ (a : Argument). a.operand) line.arguments

-- one for each word
abbrev pub operands_of : List Instr → List Operand
operands_of code = flat_map operands_in code

abbrev pub constants_of : Program → List Value
constants_of Q = constants_from same_value [] (operands_of Q.code)

-- how many of a table's constants are used behind a word that uses the k-th, where no lower one is left out
abbrev pub used_after : ℕ → ℕ → Option ℕ
used_after used k = if nat_lt k used then Some used else (if nat_eq k used then Some (suc used) else None)

-- what the words of an image use: for each word nothing, or the number of a constant
abbrev pub step_used : Option ℕ → ℕ → Option ℕ
step_used None used = Some used
step_used (Some k) used = used_after used k
