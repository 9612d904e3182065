-- The listing of a program: its one text, all in capital letters but ms. Each line ends with LF.
use Rattle.std.specs.Prelude.{ℕ, suc, ◌+◌, ◌==◌, map, ◌/◌, ◌%◌, ℤ, pos, negsuc, Bool, true, false, List, [], ◌∷◌, ◌++◌}
use Rattle.std.specs.Prelude.{Option, Some, None, if◌then◌else◌, codes, ◌||◌, length, nat_lt}
use Rattle.std.specs.List.{flat_map}
use Rattle.std.specs.Int.Digits.{digits_of}
use Rattle.il_real.specs.Texts.{real_text}
use Rattle.il_values.specs.declared.value.Ty.{Ty}
use Rattle.il_values.specs.declared.value.Ty.TheVariants as types
use Rattle.il_values.specs.declared.value.Value.{Value}
use Rattle.il_values.specs.declared.value.Value.TheVariants as values
use Rattle.il_values.specs.declared.function.Function.{Function}
use Rattle.il_values.specs.declared.function.Function.TheVariants as functions
use Rattle.il_values.specs.declared.shift.Shift.{Shift}
use Rattle.il_values.specs.declared.shift.Shift.TheVariants as shifts
use Rattle.il_values.specs.declared.op.Op.{Op}
use Rattle.il_values.specs.declared.op.Op.TheVariants as ops
use Rattle.il_values.specs.declared.op.Modifier.{Modifier}
use Rattle.il_model.specs.declared.program.Area.{Area}
use Rattle.il_model.specs.declared.program.Area.TheVariants as areas
use Rattle.il_model.specs.declared.program.Loc.{Loc}
use Rattle.il_model.specs.declared.program.Loc.TheVariants.{Bit, Word, Pattern, Double}
use Rattle.il_model.specs.declared.program.Variable.{Variable}
use Rattle.il_model.specs.declared.program.Instance.{Instance}
use Rattle.il_model.specs.declared.program.Operand.{Operand}
use Rattle.il_model.specs.declared.program.Operand.TheVariants as operands
use Rattle.il_model.specs.declared.program.Side.{Side}
use Rattle.il_model.specs.declared.program.Side.TheVariants as sides
use Rattle.il_model.specs.declared.program.Argument.{Argument}
use Rattle.il_model.specs.declared.program.Instr.{Instr}
use Rattle.il_values.specs.Values.{number_of}
use Rattle.il_values.specs.Operators.{is_zero}
use Rattle.il_values.specs.Spelled.{spells}
use Rattle.il_model.specs.declared.limits.TheConstants.{LONGEST_DOTTED_NAME}
use Rattle.il_values.specs.BitStrings.{hex_word, hex_double}
use Rattle.il_model.specs.Kinds.{kind_name}
use Rattle.il_model.specs.Codes.{is_empty}
use Rattle.il_model.specs.Program.{Program}
use Rattle.il_model.specs.declared.codes.Version.{Version}
use Rattle.il_model.specs.declared.codes.Version.TheVariants as versions
use Rattle.il_model.specs.Image.{version_of}

-- ---- literals and locations

-- in decimal digits, the highest first
abbrev pub decimal : ℕ → List ℕ
decimal n = if n == 0 then codes "0" else map (λ d. 48 + d) (digits_of 10 n)

abbrev pub number_text : ℤ → List ℕ
number_text (pos n) = decimal n
number_text (negsuc n) = codes "-" ++ decimal (suc n)

abbrev pub truth_text : Bool → List ℕ
truth_text true = codes "TRUE"
truth_text false = codes "FALSE"

abbrev pub literal_text : Value → List ℕ
literal_text (values.Bool b) = truth_text b
literal_text (values.Int z) = codes "INT#" ++ number_text z
literal_text (values.Dint z) = codes "DINT#" ++ number_text z
literal_text (values.Lint z) = codes "LINT#" ++ number_text z
literal_text (values.Time z) = codes "T#" ++ (number_text z ++ codes "ms")
literal_text (values.Real r) = codes "REAL#" ++ real_text r
literal_text (values.Word n) = codes "WORD#16#" ++ hex_word n
literal_text (values.Dword n) = codes "DWORD#16#" ++ hex_double n

abbrev pub area_letter : Area → List ℕ
area_letter areas.Input = codes "I"
area_letter areas.Output = codes "Q"
area_letter areas.Memory = codes "M"

-- %IX0.3, %QW7, %MD4
abbrev pub location_text : Loc → List ℕ
location_text (Bit area n) = codes "%"
    ++ (area_letter area ++ (codes "X" ++ (decimal (n / 8) ++ (codes "." ++ decimal (n % 8)))))
location_text (Word area n) = codes "%" ++ (area_letter area ++ (codes "W" ++ decimal n))
location_text (Pattern area n) = codes "%" ++ (area_letter area ++ (codes "W" ++ decimal n))
location_text (Double area n t) = codes "%" ++ (area_letter area ++ (codes "D" ++ decimal n))

-- ---- declarations

abbrev pub type_name : Ty → List ℕ
type_name types.Bool = codes "BOOL"
type_name types.Int = codes "INT"
type_name types.Dint = codes "DINT"
type_name types.Time = codes "TIME"
type_name types.Lint = codes "LINT"
type_name types.Real = codes "REAL"
type_name types.Word = codes "WORD"
type_name types.Dword = codes "DWORD"

abbrev pub at_text : Option Loc → List ℕ
at_text None = []
at_text (Some loc) = codes " AT " ++ location_text loc

-- an initial value is listed where it isn't FALSE, 0, 0.0 or no time
abbrev pub initial_text : Value → List ℕ
initial_text v = if is_zero (number_of v) then [] else codes " := " ++ literal_text v

-- X AT %QW0 : INT := INT#7;
abbrev pub variable_text : Variable → List ℕ
variable_text v = v.name
    ++ (at_text v.location ++ (codes " : " ++ (type_name v.ty ++ (initial_text v.initial ++ codes ";\n"))))

-- T1 : TON;
abbrev pub instance_text : Instance → List ℕ
instance_text x = x.name ++ (codes " : " ++ (kind_name x.kind ++ codes ";\n"))

-- ---- instructions

abbrev pub function_name : Function → List ℕ
function_name functions.IntToReal = codes "INT_TO_REAL"
function_name functions.DintToReal = codes "DINT_TO_REAL"
function_name functions.LintToReal = codes "LINT_TO_REAL"
function_name functions.TimeToReal = codes "TIME_TO_REAL"
function_name functions.RealToInt = codes "REAL_TO_INT"
function_name functions.RealToDint = codes "REAL_TO_DINT"
function_name functions.RealToLint = codes "REAL_TO_LINT"
function_name functions.RealToTime = codes "REAL_TO_TIME"
function_name functions.Trunc = codes "TRUNC"
function_name functions.Abs = codes "ABS"
function_name functions.Sqrt = codes "SQRT"
function_name functions.TimeToDint = codes "TIME_TO_DINT"
function_name functions.DintToTime = codes "DINT_TO_TIME"
function_name functions.Move = codes "MOVE"
function_name functions.WordToInt = codes "WORD_TO_INT"
function_name functions.IntToWord = codes "INT_TO_WORD"
function_name functions.DwordToDint = codes "DWORD_TO_DINT"
function_name functions.DintToDword = codes "DINT_TO_DWORD"
function_name functions.WordToDword = codes "WORD_TO_DWORD"
function_name functions.DwordToWord = codes "DWORD_TO_WORD"

abbrev pub shift_name : Shift → List ℕ
shift_name shifts.Left = codes "SHL"
shift_name shifts.Right = codes "SHR"
shift_name shifts.RotateLeft = codes "ROL"
shift_name shifts.RotateRight = codes "ROR"

abbrev pub op_name : Op → List ℕ
op_name ops.Empty = []
op_name ops.Ld = codes "LD"
op_name ops.St = codes "ST"
op_name ops.S = codes "S"
op_name ops.R = codes "R"
op_name ops.And = codes "AND"
op_name ops.Or = codes "OR"
op_name ops.Xor = codes "XOR"
op_name ops.Not = codes "NOT"
op_name ops.Add = codes "ADD"
op_name ops.Sub = codes "SUB"
op_name ops.Min = codes "MIN"
op_name ops.Max = codes "MAX"
op_name ops.Mul = codes "MUL"
op_name ops.Div = codes "DIV"
op_name ops.Mod = codes "MOD"
op_name ops.Gt = codes "GT"
op_name ops.Ge = codes "GE"
op_name ops.Eq = codes "EQ"
op_name ops.Ne = codes "NE"
op_name ops.Le = codes "LE"
op_name ops.Lt = codes "LT"
op_name ops.Jmp = codes "JMP"
op_name ops.Cal = codes "CAL"
op_name ops.Ret = codes "RET"
op_name ops.Close = codes ")"
op_name ops.IntToDint = codes "INT_TO_DINT"
op_name ops.DintToInt = codes "DINT_TO_INT"
op_name ops.DintToLint = codes "DINT_TO_LINT"
op_name ops.LintToDint = codes "LINT_TO_DINT"
op_name (ops.Shift s) = shift_name s
op_name (ops.Apply f) = function_name f

abbrev pub letter : Bool → List ℕ → List ℕ
letter b text = if b then text else []

-- JMPCN, ANDN(
abbrev pub operator_text : Op → Modifier → List ℕ
operator_text op m = op_name op
    ++ (letter m.conditional (codes "C") ++ (letter m.negated (codes "N") ++ letter m.opens (codes "(")))

-- between an instance and its field: a dot, behind a blank where the three have more bytes than a name may have
abbrev pub dot_text : List ℕ → List ℕ → List ℕ
dot_text name field =
    if nat_lt LONGEST_DOTTED_NAME (length name + 1 + length field) then codes " ." else codes "."

-- a bare number stands in no typed program
abbrev pub operand_text : Operand → List ℕ
operand_text operands.Absent = []
operand_text (operands.Literal v) = literal_text v
operand_text (operands.Bare z) = number_text z
operand_text (operands.Variable name) = name
operand_text (operands.Direct loc) = location_text loc
operand_text (operands.Label name) = name
operand_text (operands.Field name field) = name ++ (dot_text name field ++ field)
operand_text (operands.Instance name) = name

-- behind an operator, with a space
abbrev pub behind_text : Operand → List ℕ
behind_text operands.Absent = []
behind_text operand = codes " " ++ operand_text operand

abbrev pub side_text : Side → List ℕ
side_text sides.Input = codes " := "
side_text sides.Output = codes " => "

abbrev pub argument_text : Argument → List ℕ
argument_text a = a.field ++ (side_text a.side ++ operand_text a.operand)

abbrev pub next_argument_text : Argument → List ℕ
next_argument_text a = codes ", " ++ argument_text a

-- (IN := X, PT := T#2000ms, Q => Y); a call without arguments has no parentheses
abbrev pub arguments_text : List Argument → List ℕ
arguments_text [] = []
arguments_text (a ∷ more) = codes "(" ++ (argument_text a ++ (flat_map next_argument_text more ++ codes ")"))

abbrev pub operation_text : Instr → List ℕ
operation_text line = operator_text line.op line.modifier ++ (behind_text line.operand ++ arguments_text line.arguments)

-- nothing but a line end follows the label of an empty instruction
abbrev pub label_text : Op → Option (List ℕ) → List ℕ
label_text op None = []
label_text op (Some name) = name ++ (if is_empty op then codes ":" else codes ": ")

abbrev pub line_text : Instr → List ℕ
line_text line = label_text line.op line.label ++ (operation_text line ++ codes "\n")

-- ---- sections of declarations: one for each run of those that are retained, or aren't

-- a name that would be taken for a qualifier behind VAR_GLOBAL
abbrev pub reads_as_qualifier : List ℕ → Bool
reads_as_qualifier name = spells (codes "RETAIN") name || spells (codes "NON_RETAIN") name

-- before a declaration with this name, which is retained or isn't; only where else its name would be taken for a
-- qualifier is NON_RETAIN listed
abbrev pub qualifier_text : Bool → List ℕ → List ℕ
qualifier_text true name = codes " RETAIN"
qualifier_text false name = if reads_as_qualifier name then codes " NON_RETAIN" else []

abbrev pub section_text : Bool → List ℕ → List ℕ
section_text retained name = codes "VAR_GLOBAL" ++ (qualifier_text retained name ++ codes "\n")

-- where one is retained and the one before it isn't, or the other way round, a section begins
abbrev pub turn_text : Bool → Bool → List ℕ → List ℕ
turn_text true true name = []
turn_text false false name = []
turn_text before retained name = codes "END_VAR\n" ++ section_text retained name

-- variables, and instances, behind a declaration that is retained or isn't
abbrev pub variables_text : Bool → List Variable → List ℕ
variables_text before [] = []
variables_text before (v ∷ vs) = turn_text before v.retained v.name
    ++ (variable_text v ++ variables_text v.retained vs)

abbrev pub instances_text : Bool → List Instance → List ℕ
instances_text before [] = []
instances_text before (x ∷ xs) = turn_text before x.retained x.name
    ++ (instance_text x ++ instances_text x.retained xs)

-- whether the last of these is retained, or the declaration before them where there are none
abbrev pub last_retained : Bool → List Variable → Bool
last_retained before [] = before
last_retained before (v ∷ vs) = last_retained v.retained vs

-- the first declaration: whether it's retained, and its name
abbrev pub first_retained : List Variable → List Instance → Bool
first_retained (v ∷ vs) xs = v.retained
first_retained [] (x ∷ xs) = x.retained
first_retained [] [] = false

abbrev pub first_name : List Variable → List Instance → List ℕ
first_name (v ∷ vs) xs = v.name
first_name [] (x ∷ xs) = x.name
first_name [] [] = []

-- ---- the whole

abbrev pub is_third : Version → Bool
is_third versions.Three = true
is_third version = false

-- a program of the third version is listed as an extended text, which begins with VAR_GLOBAL; of every other nothing is
-- retained
abbrev pub opening : Version → Bool → List ℕ → List ℕ
opening version retained name = if is_third version then section_text retained name else codes "VAR\n"

abbrev pub listing : Program → List ℕ
listing Q =
    let first = first_retained Q.variables Q.instances in
    opening (version_of Q) first (first_name Q.variables Q.instances)
    ++ (variables_text first Q.variables
    ++ (instances_text (last_retained first Q.variables) Q.instances
    ++ (codes "END_VAR\n" ++ flat_map line_text Q.code)))
