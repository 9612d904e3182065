-- What a program is that has an image: each part reads back from its code.
use Rattle.std.specs.Prelude.{◌≡◌, ℕ, ◌||◌, nat_eq, ◌<◌, ◌≤◌, ◌^◌, true, false, List, [], ◌∷◌, ◌++◌, length, Option}
use Rattle.std.specs.Prelude.{Some}
use Rattle.std.specs.List.{AllByRecursion}
use Rattle.std.specs.Option.{option_and_then}
use Rattle.il_model.specs.declared.codes.Version.TheVariants as versions
use Rattle.il_values.specs.declared.value.Value.{Value}
use Rattle.il_values.specs.declared.op.Op.{Op}
use Rattle.il_values.specs.declared.op.Modifier.{Modifier}
use Rattle.il_model.specs.declared.kind.BlockKind.{BlockKind}
use Rattle.il_model.specs.declared.program.Variable.{Variable}
use Rattle.il_model.specs.declared.program.Instance.{Instance}
use Rattle.il_model.specs.declared.program.Argument.{Argument}
use Rattle.il_model.specs.declared.program.Operand.{Operand}
use Rattle.il_model.specs.declared.program.Instr.{Instr}
use Rattle.il_model.specs.declared.limits.TheConstants.{MOST_VARIABLES, MOST_INSTANCES, MOST_INSTRUCTIONS}
use Rattle.il_model.specs.declared.limits.TheConstants.{MOST_WORDS, MOST_IMAGE_WORDS}
use Rattle.il_values.specs.Values.{ty_of, number_of}
use Rattle.il_model.specs.Program.{Program, Declarations, declared_by}
use Rattle.il_model.specs.Kinds.{field_number}
use Rattle.il_model.specs.Resolved.{called_kind}
use Rattle.il_model.specs.Typing.{IsTyped}
use Rattle.il_model.specs.Marks.{Mark, marks_from, words_in}
use Rattle.il_model.specs.Limits.{is_crowded}
use Rattle.il_model.specs.Constants.{constants_of}
use Rattle.il_model.specs.Image.{type_code, location_code, modifier_code, operand_code}
use Rattle.il_values.specs.OpCodes.{op_code}
use Rattle.il_model.specs.Codes.{length_in, is_new_name, is_new_instance, is_new_label, type_of, coded_location}
use Rattle.il_model.specs.Codes.{initial_of, constant_of, letters_of, word_operand, argument_name}
use Rattle.il_values.specs.OpCodes.{op_of}
use Rattle.il_model.specs.Codes.{argument_operand, is_call, is_pointless}

-- a variable behind those that were declared before it
pub record IsVariable (seen : List Variable) (v : Variable) : Type 0 where
  pub length : length_in versions.Three (length v.name) ≡ Some (length v.name)
  pub name : is_new_name seen v.name ≡ true
  pub type : type_of (type_code v.ty) ≡ Some v.ty
  pub location : coded_location seen v.ty (location_code v.location) ≡ Some v.location
  pub location_small : location_code v.location < 2 ^ 16
  pub initial : initial_of v.ty v.location (number_of v.initial) ≡ Some v.initial

-- an instance behind the variables and those before it
pub record IsInstance (vs : List Variable) (seen : List Instance) (x : Instance) : Type 0 where
  pub length : length_in versions.Three (length x.name) ≡ Some (length x.name)
  pub name : is_new_instance vs seen x.name ≡ true

-- a label behind those before it
pub record IsMark (seen : List Mark) (m : Mark) : Type 0 where
  pub length : length_in versions.Three (length m.name) ≡ Some (length m.name)
  pub name : is_new_label seen m.name ≡ true
  pub small : m.at < 2 ^ 16

-- a constant behind those before it
pub record IsConstant (seen : List Value) (v : Value) : Type 0 where
  pub type : type_of (type_code (ty_of v)) ≡ Some (ty_of v)
  pub value : constant_of seen (ty_of v) (number_of v) ≡ Some v

-- an operator with its letters and its operand, which is a number
pub record IsCoded (ds : Declarations) (marks : List Mark) (constants : List Value) (op : Op) (m : Modifier)
    (operand : Operand) (code : ℕ) : Type 0 where
  pub op_read : op_of (op_code op) ≡ Some op
  pub op_small : op_code op < 2 ^ 8
  pub letters : letters_of op (modifier_code m) ≡ Some m
  pub letters_small : modifier_code m < 2 ^ 8
  pub operand_read : word_operand ds marks constants op m code ≡ Some operand
  pub operand_small : code < 2 ^ 16

-- an argument of a call to a block of that kind
pub record IsPassing (Q : Program) (kind : Option BlockKind) (a : Argument) : Type 0 where
  pub number : ℕ
  pub field : option_and_then (λ k. field_number k a.field) kind ≡ Some number
  pub name : argument_name kind number ≡ a.field
  pub small : number < 8
  pub operand_read : argument_operand (declared_by Q) (constants_of Q)
      (operand_code Q (constants_of Q) a.operand) ≡ Some a.operand
  pub operand_small : operand_code Q (constants_of Q) a.operand < 2 ^ 16

pub record IsWord (Q : Program) (line : Instr) : Type 0 where
  pub coded : IsCoded (declared_by Q) (marks_from 0 Q.code) (constants_of Q) line.op line.modifier line.operand
      (operand_code Q (constants_of Q) line.operand)
  pub labelled : is_pointless line ≡ false
  pub arguments : AllByRecursion (IsPassing Q (called_kind Q line.operand)) line.arguments
  -- only a call has arguments
  pub called : (is_call line.op || nat_eq (length line.arguments) 0) ≡ true

-- each of the later items is one behind those before it
abbrev pub AreItems : {X : Type 0} → (List X → X → Type 0) → List X → List X → Type 0
AreItems IsItem seen [] = Unit {0}
AreItems IsItem seen (x ∷ xs) = IsItem seen x × AreItems IsItem (seen ++ x ∷ []) xs

pub record IsProgram (Q : Program) : Type 0 where
  pub variables : AreItems IsVariable [] Q.variables
  pub variables_few : length Q.variables ≤ MOST_VARIABLES
  pub instances : AreItems (IsInstance Q.variables) [] Q.instances
  pub instances_few : length Q.instances ≤ MOST_INSTANCES
  pub labels : AreItems IsMark [] (marks_from 0 Q.code)
  pub labels_few : length (marks_from 0 Q.code) ≤ MOST_INSTRUCTIONS
  pub constants : AreItems IsConstant [] (constants_of Q)
  pub constants_few : length (constants_of Q) ≤ MOST_WORDS
  pub words : AreItems (λ seen. IsWord Q) [] Q.code
  pub words_few : words_in Q.code ≤ MOST_IMAGE_WORDS

pub record IsImage (Q : Program) : Type 0 where
  pub text : IsProgram Q
  pub short : length Q.code ≤ MOST_INSTRUCTIONS
  pub uncrowded : is_crowded (length Q.code) (words_in Q.code) ≡ false
  pub typed : IsTyped Q
