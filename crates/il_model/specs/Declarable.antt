-- What a program is that a text declares: its parts have lawful forms. Once its bare numbers have types it has an
-- image.
use Rattle.std.specs.Prelude.{◌≡◌, ◌≤◌, ◌^◌, true, false, [], length}
use Rattle.std.specs.List.{AllByRecursion}
use Rattle.il_values.specs.declared.value.Value.TheVariants as values
use Rattle.il_model.specs.declared.codes.OperandForm.TheVariants as forms
use Rattle.il_model.specs.declared.program.Argument.{Argument}
use Rattle.il_model.specs.declared.program.Operand.{Operand}
use Rattle.il_model.specs.declared.program.Operand.TheVariants as operands
use Rattle.il_model.specs.declared.program.Instr.{Instr}
use Rattle.il_model.specs.declared.limits.TheConstants.{MOST_VARIABLES, MOST_INSTANCES, MOST_INSTRUCTIONS}
use Rattle.il_values.specs.Values.{is_within}
use Rattle.il_model.specs.Program.{Program, Declarations, declared_by}
use Rattle.il_model.specs.Marks.{words_in}
use Rattle.il_model.specs.Limits.{is_crowded}
use Rattle.il_model.specs.Codes.{usage_of, allowed_by, formed_by, has_form, is_pointless}
use Rattle.il_model.specs.Lawful.{IsOperandOf, IsLabel}
use Rattle.il_model.specs.Fits.{IsVariable, IsInstance, AreItems}

-- a number in its range, a location that is there; a label may stand nowhere, and the instance may not have the field
abbrev pub IsOperand : Declarations → Operand → Type 0
IsOperand ds operand = IsOperandOf (λ z. is_within (2 ^ 31) z ≡ true) ds operand

-- a bare number stands where a value may stand
abbrev pub as_value : Operand → Operand
as_value (operands.Bare z) = operands.Literal (values.Dint z)
as_value operand = operand

-- an argument has a value or a place
pub record IsArgument (ds : Declarations) (a : Argument) : Type 0 where
  pub operand : IsOperand ds a.operand
  pub formed : has_form forms.Value false (as_value a.operand) ≡ true

pub record IsInstruction (ds : Declarations) (line : Instr) : Type 0 where
  pub label : IsLabel line.label
  pub letters : allowed_by (usage_of line.op) line.modifier ≡ true
  pub operand : IsOperand ds line.operand
  pub formed : formed_by (usage_of line.op) line.modifier (as_value line.operand) ≡ true
  pub arguments : AllByRecursion (IsArgument ds) line.arguments
  pub placed : is_pointless line ≡ false

pub record IsDeclared (P : Program) : Type 0 where
  pub variables : AreItems IsVariable [] P.variables
  pub variables_few : length P.variables ≤ MOST_VARIABLES
  pub instances : AreItems (IsInstance P.variables) [] P.instances
  pub instances_few : length P.instances ≤ MOST_INSTANCES
  pub lines : AllByRecursion (IsInstruction (declared_by P)) P.code
  pub lines_few : length P.code ≤ MOST_INSTRUCTIONS
  pub uncrowded : is_crowded (length P.code) (words_in P.code) ≡ false
