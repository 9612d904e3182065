-- The bytes of a program: one spelling for each. In this order: a header, the variables, the instances, the labels, the
-- constants, the words. All numbers are big-endian.
use Rattle.std.specs.Prelude.{ℕ, ℤ, ◌+◌, Bool, true, false, ◌&&◌, if◌then◌else◌, List, ◌++◌, length, codes, Option}
use Rattle.std.specs.Prelude.{Some, None}
use Rattle.std.specs.Option.{option_map, option_and_then}
use Rattle.std.specs.List.{flat_map, list_all}
use Rattle.std.specs.Int.{Width, w8, w16, w32, w64, to_be_bytes, cast_unsigned}
use Rattle.il_values.specs.declared.value.Ty.{Ty}
use Rattle.il_values.specs.declared.value.Ty.TheVariants as types
use Rattle.il_values.specs.declared.op.Op.{Op}
use Rattle.il_model.specs.declared.codes.TheConstants.{RETAINED}
use Rattle.il_model.specs.declared.codes.Version.{Version}
use Rattle.il_model.specs.declared.codes.Version.TheVariants as versions
use Rattle.il_values.specs.declared.op.Op.TheVariants as ops
use Rattle.il_values.specs.declared.op.Modifier.{Modifier}
use Rattle.il_model.specs.declared.program.Loc.{Loc}
use Rattle.il_model.specs.declared.program.Loc.TheVariants.{Pattern, Double}
use Rattle.il_model.specs.declared.program.Place.{Place}
use Rattle.il_model.specs.declared.program.Place.TheVariants as places
use Rattle.il_model.specs.declared.program.Variable.{Variable}
use Rattle.il_model.specs.declared.program.Instance.{Instance}
use Rattle.il_model.specs.declared.program.Argument.{Argument}
use Rattle.il_model.specs.declared.program.Side.{Side}
use Rattle.il_model.specs.declared.program.Side.TheVariants as sides
use Rattle.il_model.specs.declared.kind.BlockKind.{BlockKind}
use Rattle.il_model.specs.declared.program.Operand.{Operand}
use Rattle.il_model.specs.declared.program.Operand.TheVariants as operands
use Rattle.il_model.specs.declared.program.Instr.{Instr}
use Rattle.il_values.specs.declared.value.Value.{Value}
use Rattle.il_model.specs.declared.coded_operand.CodedOperand.{CodedOperand}
use Rattle.il_model.specs.declared.coded_operand.CodedOperand.TheVariants as coded
use Rattle.il_values.specs.Values.{ty_of, number_of}
use Rattle.il_model.specs.Words.{same_name, has_dot}
use Rattle.std.specs.List.{position}
use Rattle.il_model.specs.CodedOperands.{code_of}
use Rattle.il_model.specs.Program.{Program, Declarations, declared_by}
use Rattle.il_model.specs.Kinds.{kind_code, field_number}
use Rattle.il_model.specs.Resolved.{target_of, instance_in, field_in, called_kind}
use Rattle.il_model.specs.Marks.{Mark, marks_from, words_in, address_of}
use Rattle.il_model.specs.Limits.{has_room}
use Rattle.il_model.specs.Constants.{same_value, constants_of, operands_in}
use Rattle.il_values.specs.OpCodes.{op_code}

abbrev pub type_code : Ty → ℕ
type_code types.Bool = 0
type_code types.Int = 1
type_code types.Dint = 2
type_code types.Time = 3
type_code types.Lint = 4
type_code types.Real = 5
type_code types.Word = 6
type_code types.Dword = 7

abbrev pub location_code : Option Loc → ℕ
location_code None = code_of coded.Unused
location_code (Some loc) = code_of (coded.Location loc)

abbrev pub name_bytes : List ℕ → List ℕ
name_bytes name = to_be_bytes w8 (length name) ++ name

-- ---- versions: the second came with LINT, and has numbers of 64 bits, as the third, which came with REAL, bit
-- strings, functions, double words and what is retained

abbrev pub version_number : Version → ℕ
version_number versions.One = 1
version_number versions.Two = 2
version_number versions.Three = 3

abbrev pub number_width : Version → Width
number_width versions.One = w32
number_width versions.Two = w64
number_width versions.Three = w64

-- the version that a type came with
abbrev pub type_version : Ty → Version
type_version types.Lint = versions.Two
type_version types.Real = versions.Three
type_version types.Word = versions.Three
type_version types.Dword = versions.Three
type_version _ = versions.One

abbrev pub value_version : Value → Version
value_version v = type_version (ty_of v)

-- the version that an operator came with: the conversions from LINT and to it with the second; MIN, MAX, shifts and
-- functions with the third
abbrev pub op_version : Op → Version
op_version ops.DintToLint = versions.Two
op_version ops.LintToDint = versions.Two
op_version ops.Min = versions.Three
op_version ops.Max = versions.Three
op_version (ops.Shift s) = versions.Three
op_version (ops.Apply f) = versions.Three
op_version _ = versions.One

-- the version that a location came with: patterns and double words with the third
abbrev pub location_version : Loc → Version
location_version (Pattern a n) = versions.Three
location_version (Double a n t) = versions.Three
location_version loc = versions.One

abbrev pub place_version : Option Loc → Version
place_version None = versions.One
place_version (Some loc) = location_version loc

abbrev pub operand_version : Operand → Version
operand_version (operands.Direct loc) = location_version loc
operand_version operand = versions.One

-- the version that being retained came with
abbrev pub retained_version : Bool → Version
retained_version true = versions.Three
retained_version false = versions.One

-- the version that a name came with: one with dots with the third
abbrev pub name_version : List ℕ → Version
name_version name = if has_dot name then versions.Three else versions.One

-- an image of a version may have what came with this one or an earlier one
abbrev pub may_have : Version → Version → Bool
may_have versions.One versions.One = true
may_have versions.One needed = false
may_have versions.Two versions.Three = false
may_have version needed = true

abbrev pub may_lie : Version → Option Loc → Bool
may_lie version place = may_have version (place_version place)

abbrev pub may_retain : Version → Bool → Bool
may_retain version retained = may_have version (retained_version retained)

abbrev pub may_call : Version → List ℕ → Bool
may_call version name = may_have version (name_version name)

abbrev pub may_label : Version → Option (List ℕ) → Bool
may_label version None = true
may_label version (Some name) = may_call version name

-- by its name, by its type, by its first value (in each program that has an image the two are of one type), by its
-- location, and by whether it's retained
abbrev pub may_declare : Version → Variable → Bool
may_declare version v = may_call version v.name && (may_have version (type_version v.ty)
    && (may_have version (value_version v.initial) && (may_lie version v.location && may_retain version v.retained)))

abbrev pub may_instantiate : Version → Instance → Bool
may_instantiate version x = may_call version x.name && may_retain version x.retained

abbrev pub may_keep : Version → Value → Bool
may_keep version v = may_have version (value_version v)

abbrev pub may_name : Version → Operand → Bool
may_name version operand = may_have version (operand_version operand)

-- by its label, by its operator, and by its operand and those of its arguments
abbrev pub may_write : Version → Instr → Bool
may_write version line = may_label version line.label
    && (may_have version (op_version line.op) && list_all (may_name version) (operands_in line))

-- an image of a version may have each of these
abbrev pub may_have_all : Version → List Variable → List Instance → List Value → List Instr → Bool
may_have_all version variables instances constants code = list_all (may_declare version) variables
    && (list_all (may_instantiate version) instances
    && (list_all (may_keep version) constants && list_all (may_write version) code))

-- and it has room for so many
abbrev pub suffices : Version → List Variable → List Instance → List Value → List Instr → Bool
suffices version variables instances constants code =
    has_room version variables instances code && may_have_all version variables instances constants code

-- the first version that suffices; the third may have everything, and has room for each program
abbrev pub version_with : List Variable → List Instance → List Value → List Instr → Version
version_with variables instances constants code =
    if suffices versions.One variables instances constants code then versions.One
    else (if suffices versions.Two variables instances constants code then versions.Two else versions.Three)

abbrev pub version_of : Program → Version
version_of Q = version_with Q.variables Q.instances (constants_of Q) Q.code

-- a number as an image of this version has it
abbrev pub number_bytes : Version → ℤ → List ℕ
number_bytes version z = to_be_bytes (number_width version) (cast_unsigned (number_width version) z)

abbrev pub flag : Bool → ℕ → ℕ
flag true n = n
flag false n = 0

-- the code of a type or of a kind as a declaration has it: RETAINED more where what is declared is retained
abbrev pub declared_code : Bool → ℕ → ℕ
declared_code retained code = flag retained RETAINED + code

abbrev pub variable_bytes : Version → Variable → List ℕ
variable_bytes version v = name_bytes v.name
    ++ (to_be_bytes w8 (declared_code v.retained (type_code v.ty))
    ++ (to_be_bytes w16 (location_code v.location) ++ number_bytes version (number_of v.initial)))

abbrev pub modifier_code : Modifier → ℕ
modifier_code m = flag m.negated 1 + (flag m.conditional 2 + flag m.opens 4)

-- a label: its name and the address of its word
abbrev pub mark_bytes : Mark → List ℕ
mark_bytes m = name_bytes m.name ++ to_be_bytes w16 m.at

abbrev pub constant_bytes : Version → Value → List ℕ
constant_bytes version v = to_be_bytes w8 (type_code (ty_of v)) ++ number_bytes version (number_of v)

-- what stands there under a number, if it is there
abbrev pub numbered : (ℕ → CodedOperand) → Option ℕ → CodedOperand
numbered sort None = coded.Unused
numbered sort (Some n) = sort n

-- a literal by its number among the constants
abbrev pub coded_literal : List Value → Value → CodedOperand
coded_literal constants v = numbered coded.Constant (position (same_value v) constants)

abbrev pub coded_field : Option Place → CodedOperand
coded_field (Some (places.Field i n)) = coded.Field i n
coded_field place = coded.Unused

-- an operand by numbers: a variable has its own, located or not; labels and instances that are called aren't in the
-- table
abbrev pub coded_operand : Declarations → List Value → Operand → CodedOperand
coded_operand ds constants (operands.Literal v) = coded_literal constants v
coded_operand ds constants (operands.Direct loc) = coded.Location loc
coded_operand ds constants (operands.Variable name) =
    numbered coded.Variable (position (λ (v : Variable). same_name v.name name) ds.variables)
coded_operand ds constants (operands.Field name field) = coded_field (field_in ds.instances name field)
coded_operand ds constants operand = coded.Unused

-- what is named behind JMP or CAL is a number of its own
abbrev pub number_or_unused : Option ℕ → ℕ
number_or_unused None = code_of coded.Unused
number_or_unused (Some n) = n

-- a label is the address where it stands, an instance that is called its number, and every other operand its code
abbrev pub operand_code : Program → List Value → Operand → ℕ
operand_code Q constants (operands.Label name) = number_or_unused (option_map (address_of Q.code) (target_of Q name))
operand_code Q constants (operands.Instance name) = number_or_unused (instance_in Q.instances name)
operand_code Q constants operand = code_of (coded_operand (declared_by Q) constants operand)

-- a word: three numbers
abbrev pub coded_word : ℕ → ℕ → ℕ → List ℕ
coded_word op letters operand = to_be_bytes w8 op ++ (to_be_bytes w8 letters ++ to_be_bytes w16 operand)

abbrev pub word_bytes : Program → List Value → Instr → List ℕ
word_bytes Q constants line =
    coded_word (op_code line.op) (modifier_code line.modifier) (operand_code Q constants line.operand)

abbrev pub side_code : Side → ℕ
side_code sides.Input = 26
side_code sides.Output = 27

-- no field has that number
abbrev pub field_number_code : Option ℕ → ℕ
field_number_code None = 255
field_number_code (Some n) = n

-- an argument: its field by the number in the kind of the instance that is called
abbrev pub argument_bytes : Program → List Value → Option BlockKind → Argument → List ℕ
argument_bytes Q constants kind a =
    coded_word (side_code a.side) (field_number_code (option_and_then (λ k. field_number k a.field) kind))
    (operand_code Q constants a.operand)

-- an instruction's word and those of its arguments in the order written
abbrev pub instruction_bytes : Program → List Value → Instr → List ℕ
instruction_bytes Q constants line = word_bytes Q constants line
    ++ flat_map (argument_bytes Q constants (called_kind Q line.operand)) line.arguments

abbrev pub instance_bytes : Instance → List ℕ
instance_bytes x = name_bytes x.name ++ to_be_bytes w8 (declared_code x.retained (kind_code x.kind))

-- how many variables, instances, labels, constants and words there are
abbrev pub counts_bytes : ℕ → ℕ → ℕ → ℕ → ℕ → List ℕ
counts_bytes variables instances labels constants words =
    to_be_bytes w16 variables
    ++ (to_be_bytes w16 instances
    ++ (to_be_bytes w16 labels ++ (to_be_bytes w16 constants ++ to_be_bytes w16 words)))

-- how each image begins
abbrev pub magic : List ℕ
magic = codes "ILPC"

-- that, the version, and the counts
abbrev pub header_bytes : Version → ℕ → ℕ → ℕ → ℕ → ℕ → List ℕ
header_bytes version variables instances labels constants words = magic
    ++ (to_be_bytes w16 (version_number version) ++ counts_bytes variables instances labels constants words)

abbrev pub spelled_with : Version → Program → List Mark → List Value → List ℕ
spelled_with version Q labels constants =
    header_bytes version (length Q.variables) (length Q.instances) (length labels) (length constants) (words_in Q.code)
    ++ (flat_map (variable_bytes version) Q.variables
    ++ (flat_map instance_bytes Q.instances
    ++ (flat_map mark_bytes labels
    ++ (flat_map (constant_bytes version) constants ++ flat_map (instruction_bytes Q constants) Q.code))))

abbrev pub spelling : Program → List ℕ
spelling Q = spelled_with (version_of Q) Q (marks_from 0 Q.code) (constants_of Q)
