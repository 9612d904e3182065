-- Which programs have an image, and what it is to read images: from the bytes of one its program, and from others none.
use Rattle.std.specs.Prelude.{◌≡◌, ◌<◌, ◌≤◌, ℕ, false, true, List, ◌++◌, length, map, get_or, Some, is_some, Result, Ok}
use Rattle.std.specs.List.{AllByRecursion, filter_map, flat_map}
use Rattle.il_model.specs.declared.limits.TheConstants.{LONGEST_DOTTED_NAME}
use Rattle.il_values.specs.declared.value.Value.{Value}
use Rattle.il_model.specs.declared.program.Loc.{Loc}
use Rattle.il_model.specs.declared.program.Variable.{Variable}
use Rattle.il_model.specs.declared.program.Instance.{Instance}
use Rattle.il_model.specs.declared.program.Operand.{Operand}
use Rattle.il_model.specs.declared.program.Instr.{Instr}
use Rattle.il_values.specs.declared.op.Op.TheVariants as ops
use Rattle.il_model.specs.declared.program.Operand.TheVariants as operands
use Rattle.il_values.specs.Values.{ty_of, zero_of, number_of, typed_value}
use Rattle.il_model.specs.Words.{AreDistinct, is_lawful_name}
use Rattle.il_model.specs.Locations.{area_of, parts_of, is_nameable}
use Rattle.il_model.specs.Program.{Program, IsSmall}
use Rattle.il_model.specs.Typing.{loc_type, is_writable_area, IsTyped}
use Rattle.il_model.specs.Constants.{operands_in}
use Rattle.il_model.specs.Codes.{usage_of, allows, has_form, has_under}
use Rattle.il_model.specs.Image.{spelling}
use Rattle.il_records.specs.declared.fault.LoadFault.{LoadFault}

-- ---- well-formed programs

-- a name that may be given, and isn't too long
pub record IsName (name : List ℕ) : Type 0 where
  pub lawful : is_lawful_name name ≡ true
  pub short : length name ≤ LONGEST_DOTTED_NAME

-- a value in the range of its type
abbrev pub IsInRange : Value → Type 0
IsInRange v = typed_value (ty_of v) (number_of v) ≡ Some v

-- a location that is there, of the variable's type; an input has no first value of its own
pub record MayLieAt (v : Variable) (loc : Loc) : Type 0 where
  pub type : loc_type loc ≡ Some v.ty
  pub start : is_writable_area (area_of loc) ≡ false → v.initial ≡ zero_of v.ty

pub record IsVariable (v : Variable) : Type 0 where
  pub name : IsName v.name
  pub type : ty_of v.initial ≡ v.ty
  pub range : IsInRange v.initial
  pub location : (loc : Loc) → v.location ≡ Some loc → MayLieAt v loc

-- a literal in its range, a location that is there and can be named; that what is named is declared, typing says
abbrev pub IsOperand : Operand → Type 0
IsOperand (operands.Literal v) = IsInRange v
IsOperand (operands.Direct loc) = (is_some (loc_type loc) ≡ true) × (is_nameable loc ≡ true)
IsOperand operand = Unit {0}

-- an instruction whose operator takes its letters and its form of operand; one without an operator has a label
pub record IsInstruction (line : Instr) : Type 0 where
  pub label : (name : List ℕ) → line.label ≡ Some name → IsName name
  pub letters : allows (usage_of line.op).letters line.modifier ≡ true
  pub form : has_form (usage_of line.op).form line.modifier.opens line.operand ≡ true
  pub operands : AllByRecursion IsOperand (operands_in line)
  pub labelled : line.op ≡ ops.Empty → is_some line.label ≡ true

-- no more parts than a program may have, each of them lawful, no name of a variable or an instance twice, no two
-- variables at one bit or word; and it is typed, so that its labels are distinct and what it names is there
pub record IsWellFormed (Q : Program) : Type 0 where
  pub small : IsSmall Q
  pub variables : AllByRecursion IsVariable Q.variables
  pub instances : AllByRecursion (λ (x : Instance). IsName x.name) Q.instances
  pub names : AreDistinct (map (λ (v : Variable). v.name) Q.variables ++ map (λ (x : Instance). x.name) Q.instances)
  -- no variable stands under an instance, as a field of the instance would
  pub apart : AllByRecursion (λ (x : Instance). has_under Q.variables x.name ≡ false) Q.instances
  pub locations : AreDistinct (flat_map parts_of (filter_map (λ (v : Variable). v.location) Q.variables))
  pub code : AllByRecursion IsInstruction Q.code
  pub typed : IsTyped Q

-- ---- readings

-- what is read of bytes: a program, or a fault
abbrev pub Reading : Type 0
Reading = List ℕ → Result Program LoadFault

abbrev pub AreBytes : List ℕ → Type 0
AreBytes bytes = (i : ℕ) → get_or bytes i 0 < 256

-- Each well-formed program is read from its image, and none from any other bytes.
pub record ReadsImages (reading : Reading) : Type 0 where
  pub read : (Q : Program) → IsWellFormed Q → reading (spelling Q) ≡ Ok Q
  pub only : (bytes : List ℕ) (Q : Program) → AreBytes bytes → reading bytes ≡ Ok Q
      → IsWellFormed Q × (bytes ≡ spelling Q)
