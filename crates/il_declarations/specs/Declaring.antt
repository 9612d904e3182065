-- What a text declares: the names of its declarations in the order of the text, and the program of which they are the
-- variables and the instances, with an instruction for each line.
use Rattle.std.specs.Prelude.{◌≡◌, ℕ, ◌+◌, List, [], ◌∷◌, length, map, Option, Some, None, Bool, true, false, not, ◌&&◌}
use Rattle.std.specs.Prelude.{if◌then◌else◌}
use Rattle.std.specs.List.{flat_map, filter_map, list_any, AllZip}
use Rattle.std.specs.Option.{option_map}
use Rattle.il_model.specs.declared.dialect.Dialect.{Dialect}
use Rattle.il_model.specs.Dialects.{literal_in, location_in}
use Rattle.il_values.specs.declared.value.Ty.{Ty}
use Rattle.il_values.specs.declared.value.Value.{Value}
use Rattle.il_model.specs.declared.literal.Literal.{Literal}
use Rattle.il_model.specs.declared.literal.Literal.TheVariants.{Bare, Typed}
use Rattle.il_values.specs.declared.op.Op.TheVariants as ops
use Rattle.il_model.specs.declared.program.Loc.{Loc}
use Rattle.il_model.specs.declared.program.Variable.{Variable}
use Rattle.il_model.specs.declared.program.Operand.{Operand}
use Rattle.il_model.specs.declared.program.Operand.TheVariants as operands
use Rattle.il_model.specs.declared.program.Instance.{Instance}
use Rattle.il_model.specs.declared.program.Argument.{Argument}
use Rattle.il_model.specs.declared.program.Instr.{Instr}
use Rattle.il_model.specs.Program.{Program}
use Rattle.il_model.specs.Words.{same_name, split_last, stands_under}
use Rattle.il_values.specs.Values.{zero_of}
use Rattle.il_model.specs.Codes.{has_code}
use Rattle.il_model.specs.Locations.{seen_as}
use Rattle.il_reader.specs.Tokens.{Token}
use Rattle.il_reader.specs.Grammar.{OperandText, Constant, Direct, Named, Field, BehindText, Nothing, Given, Target}
use Rattle.il_reader.specs.Grammar.{Opened, Called, ArgumentText, arguments_of, OperationText, LineText, Labelled}
use Rattle.il_reader.specs.Grammar.{Plain, NamesText, Located, More, DeclarationText, BlockText, ProgramText}
use Rattle.il_reader.specs.Grammar.{is_retained}
use Rattle.il_declarations.specs.declared.variables.DeclaredType.{DeclaredType}
use Rattle.il_declarations.specs.declared.variables.DeclaredType.TheVariants as declared
use Rattle.il_declarations.specs.Resolution.{capitals, declared_type, variable, written_value, opens, with_opening, plain}

-- ---- the names that a text declares

-- a name, the declaration that it stands in, and whether that stands in a block whose variables and instances are
-- retained
pub record DeclaredName : Type 0 where
  pub name : Token
  pub by : DeclarationText
  pub retained : Bool

-- a declaration, and the same of its block
pub record BlockDeclaration : Type 0 where
  pub text : DeclarationText
  pub retained : Bool

abbrev pub named_in : BlockDeclaration → Token → DeclaredName
named_in d t = record { name = t; by = d.text; retained = d.retained }

abbrev pub other_names : NamesText → List Token
other_names (Located at) = []
other_names (More ts) = ts

abbrev pub names_in : BlockDeclaration → List DeclaredName
names_in d = map (named_in d) (d.text.name ∷ other_names d.text.names)

abbrev pub in_block : Bool → DeclarationText → BlockDeclaration
in_block retained d = record { text = d; retained = retained }

abbrev pub declarations_in : BlockText → List BlockDeclaration
declarations_in b = map (in_block (is_retained b)) b.declarations

-- the declarations of all blocks
abbrev pub declarations_of : ProgramText → List BlockDeclaration
declarations_of p = flat_map declarations_in p.blocks

abbrev pub names_of : ProgramText → List DeclaredName
names_of p = flat_map names_in (declarations_of p)

abbrev pub type_in : Dialect → DeclarationText → Option DeclaredType
type_in dialect d = declared_type dialect d.ty.text

-- It names an instance where its type is the kind of a function block, and else a variable; that of an unknown type is
-- a fault.
abbrev pub is_kind : Option DeclaredType → Bool
is_kind (Some (declared.Block kind)) = true
is_kind type = false

abbrev pub is_instance : Dialect → DeclaredName → Bool
is_instance dialect x = is_kind (type_in dialect x.by)

abbrev pub is_variable : Dialect → DeclaredName → Bool
is_variable dialect x = not (is_instance dialect x)

-- the location that a declaration says
abbrev pub written_location : Dialect → NamesText → Option Loc
written_location dialect (Located at) = location_in dialect at.text
written_location dialect (More ts) = None

-- the first value of a variable: the one that is written, where it fits and the variable is no input, and else that of
-- the type
abbrev pub start_of : Dialect → Ty → Option Loc → Option Token → Option Value
start_of dialect type loc None = Some (zero_of type)
start_of dialect type loc (Some t) = written_value dialect type loc t

abbrev pub variable_by : Dialect → Bool → List ℕ → Option Loc → Option Token → Option DeclaredType → Option Variable
variable_by dialect retained name loc initial (Some (declared.Elementary type)) =
    option_map (variable retained name type (option_map (seen_as type) loc)) (start_of dialect type loc initial)
variable_by dialect retained name loc initial type = None

-- the variable of a name; there is one where its type and its first value are good
abbrev pub variable_of : Dialect → DeclaredName → Option Variable
variable_of dialect x = variable_by dialect x.retained (capitals x.name.text) (written_location dialect x.by.names)
    x.by.initial (type_in dialect x.by)

abbrev pub instance_by : Bool → List ℕ → Option DeclaredType → Option Instance
instance_by retained name (Some (declared.Block kind)) =
    Some (record { name = name; kind = kind; retained = retained })
instance_by retained name type = None

-- the instance of a name
abbrev pub instance_of : Dialect → DeclaredName → Option Instance
instance_of dialect x = instance_by x.retained (capitals x.name.text) (type_in dialect x.by)

-- ---- looking up

abbrev pub is_called : List ℕ → DeclaredName → Bool
is_called name x = same_name (capitals x.name.text) name

-- one of the names is this
abbrev pub is_declared : List DeclaredName → List ℕ → Bool
is_declared names name = list_any (is_called name) names

abbrev pub names_variable : Dialect → List DeclaredName → List ℕ → Bool
names_variable dialect names name = list_any (λ x. is_variable dialect x && is_called name x) names

abbrev pub names_instance : Dialect → List DeclaredName → List ℕ → Bool
names_instance dialect names name = list_any (λ x. is_instance dialect x && is_called name x) names

-- a variable and an instance under whose name it stands: a field of the one couldn't be told from the other
abbrev pub is_shadowed : Dialect → List DeclaredName → DeclaredName → Bool
is_shadowed dialect before x = list_any
    (λ y. if is_instance dialect x
    then is_variable dialect y && stands_under (capitals x.name.text) (capitals y.name.text)
    else is_instance dialect y && stands_under (capitals y.name.text) (capitals x.name.text)) before

-- a variable with one of the names lies at the bit or the word of a code
abbrev pub is_occupied : Dialect → List DeclaredName → ℕ → Bool
is_occupied dialect names code =
    list_any (λ x. is_variable dialect x && has_code code (written_location dialect x.by.names)) names

-- ---- instructions

abbrev pub value_operand : Literal → Operand
value_operand (Bare z) = operands.Bare z
value_operand (Typed v) = operands.Literal v

-- a name that is no instance's field is a variable's
abbrev pub field_or : Dialect → List DeclaredName → List ℕ → Option (List ℕ × List ℕ) → Operand
field_or dialect names name None = operands.Variable name
field_or dialect names name (Some (x, field)) =
    if names_instance dialect names x then operands.Field x field else operands.Variable name

-- a name: the variable that is called so as a whole, else the field of an instance, behind the last dot
abbrev pub named_operand : Dialect → List DeclaredName → List ℕ → Operand
named_operand dialect names name = if names_variable dialect names name then operands.Variable name
    else field_or dialect names name (split_last name)

-- an operand, its names in capital letters
abbrev pub operand_in : Dialect → List DeclaredName → OperandText → Option Operand
operand_in dialect names (Constant t) = option_map value_operand (literal_in dialect t.text)
operand_in dialect names (Direct t) = option_map (λ loc. operands.Direct loc) (location_in dialect t.text)
operand_in dialect names (Named t) = Some (named_operand dialect names (capitals t.text))
operand_in dialect names (Field t f) = Some (operands.Field (capitals t.text) (capitals f.text))

abbrev pub operand_behind : Dialect → List DeclaredName → BehindText → Option Operand
operand_behind dialect names Nothing = Some operands.Absent
operand_behind dialect names (Given x) = operand_in dialect names x
operand_behind dialect names (Target t) = Some (operands.Label (capitals t.text))
operand_behind dialect names (Opened None) = Some operands.Absent
operand_behind dialect names (Opened (Some x)) = operand_in dialect names x
operand_behind dialect names (Called c) = Some (operands.Instance (capitals c.instance.text))

abbrev pub arguments_behind : BehindText → List ArgumentText
arguments_behind (Called c) = arguments_of c
arguments_behind b = []

-- how many words an instruction has: one, and one for each argument
abbrev pub operation_words : Option OperationText → ℕ
operation_words None = 1
operation_words (Some o) = 1 + length (arguments_behind o.behind)

abbrev pub line_words : LineText → ℕ
line_words (Labelled t o) = operation_words o
line_words (Plain o) = operation_words (Some o)

abbrev pub text_words : List LineText → ℕ
text_words [] = 0
text_words (l ∷ ls) = line_words l + text_words ls

-- the argument that is written
pub record IsArgumentOf (dialect : Dialect) (names : List DeclaredName) (a : ArgumentText) (x : Argument) : Type 0 where
  pub field : x.field ≡ capitals a.field.text
  pub side : x.side ≡ a.side
  pub operand : operand_in dialect names a.operand ≡ Some x.operand

-- the instruction that an operation says
pub record IsOperationOf (dialect : Dialect) (names : List DeclaredName) (o : OperationText) (x : Instr) : Type 0
  where
    pub op : x.op ≡ o.operator.mnemonic.op
    pub modifier : x.modifier ≡ with_opening (opens o.behind) o.operator.mnemonic.modifier
    pub operand : operand_behind dialect names o.behind ≡ Some x.operand
    pub arguments : AllZip (IsArgumentOf dialect names) (arguments_behind o.behind) x.arguments

-- the instruction of a label alone
pub record IsEmpty (x : Instr) : Type 0 where
  pub op : x.op ≡ ops.Empty
  pub modifier : x.modifier ≡ plain
  pub operand : x.operand ≡ operands.Absent
  pub arguments : x.arguments ≡ []

abbrev pub IsBehindLabel : Dialect → List DeclaredName → Option OperationText → Instr → Type 0
IsBehindLabel dialect names None x = IsEmpty x
IsBehindLabel dialect names (Some o) x = IsOperationOf dialect names o x

abbrev pub IsInstructionOf : Dialect → List DeclaredName → LineText → Instr → Type 0
IsInstructionOf dialect names (Labelled t o) x = (x.label ≡ Some (capitals t.text)) × IsBehindLabel dialect names o x
IsInstructionOf dialect names (Plain o) x = (x.label ≡ None) × IsOperationOf dialect names o x

-- ---- the whole

-- the program that a text without a fault declares: the variables and the instances that its names stand for, and an
-- instruction for each line
pub record IsProgramOf (dialect : Dialect) (p : ProgramText) (P : Program) : Type 0 where
  pub variables : P.variables ≡ filter_map (variable_of dialect) (names_of p)
  pub instances : P.instances ≡ filter_map (instance_of dialect) (names_of p)
  pub code : AllZip (IsInstructionOf dialect (names_of p)) p.lines P.code
