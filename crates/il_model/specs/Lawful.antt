-- What a program is whose parts are lawful each for itself. Once it is typed it has an image.
use Rattle.std.specs.Prelude.{◌≡◌, ℕ, ℤ, true, false, List, [], ◌∷◌, length, Option, Some, None, is_some}
use Rattle.std.specs.List.{AllByRecursion}
use Rattle.il_model.specs.declared.codes.Version.TheVariants as versions
use Rattle.il_model.specs.declared.codes.OperandForm.TheVariants as forms
use Rattle.il_model.specs.declared.program.Argument.{Argument}
use Rattle.il_model.specs.declared.program.Operand.{Operand}
use Rattle.il_model.specs.declared.program.Operand.TheVariants as operands
use Rattle.il_model.specs.declared.program.Instr.{Instr}
use Rattle.il_values.specs.Values.{typed_value, ty_of, number_of}
use Rattle.il_model.specs.Words.{is_lawful_name}
use Rattle.il_model.specs.Program.{Declarations}
use Rattle.il_model.specs.Resolved.{instance_in}
use Rattle.il_model.specs.Locations.{is_nameable}
use Rattle.il_model.specs.CodedOperands.{IsCell}
use Rattle.il_model.specs.Codes.{is_number, length_in, usage_of, allowed_by, formed_by, has_form, is_pointless}

-- a value that fits its type, a variable or an instance that is declared, a location that is there and can be named,
-- and of a bare number what is asked of it; labels and fields are judged with the types
abbrev pub IsOperandOf : (ℤ → Type 0) → Declarations → Operand → Type 0
IsOperandOf IsNumber ds operands.Absent = Unit {0}
IsOperandOf IsNumber ds (operands.Literal v) = typed_value (ty_of v) (number_of v) ≡ Some v
IsOperandOf IsNumber ds (operands.Bare z) = IsNumber z
IsOperandOf IsNumber ds (operands.Variable name) = is_some (is_number ds.variables name) ≡ true
IsOperandOf IsNumber ds (operands.Direct loc) = IsCell loc × (is_nameable loc ≡ true)
IsOperandOf IsNumber ds (operands.Label name) = Unit {0}
IsOperandOf IsNumber ds (operands.Field name field) = is_some (instance_in ds.instances name) ≡ true
IsOperandOf IsNumber ds (operands.Instance name) = is_some (instance_in ds.instances name) ≡ true

abbrev pub IsOperand : Declarations → Operand → Type 0
IsOperand ds operand = IsOperandOf (λ z. Unit {0}) ds operand

abbrev pub IsLabel : Option (List ℕ) → Type 0
IsLabel None = Unit {0}
IsLabel (Some name) = (length_in versions.Three (length name) ≡ Some (length name)) × (is_lawful_name name ≡ true)

-- an argument has a value or a place
pub record IsPassed (ds : Declarations) (a : Argument) : Type 0 where
  pub form : has_form forms.Value false a.operand ≡ true
  pub operand : IsOperand ds a.operand

-- an instruction whose operator takes its letters and its form of operand
pub record IsLawful (ds : Declarations) (line : Instr) : Type 0 where
  pub letters : allowed_by (usage_of line.op) line.modifier ≡ true
  pub form : formed_by (usage_of line.op) line.modifier line.operand ≡ true
  pub operand : IsOperand ds line.operand
  pub arguments : AllByRecursion (IsPassed ds) line.arguments
  pub label : IsLabel line.label
  pub labelled : is_pointless line ≡ false

abbrev pub AreLawful : Declarations → List Instr → Type 0
AreLawful ds [] = Unit {0}
AreLawful ds (line ∷ code) = IsLawful ds line × AreLawful ds code
