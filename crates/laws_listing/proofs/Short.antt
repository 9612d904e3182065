-- The listing of a program is short enough to be read.
use Rattle.std.proofs.Common.{◌≡◌, ℕ, suc, ◌+◌, ◌*◌, ◌/◌, ◌%◌, ◌^◌, ◌<◌, ◌≤◌, Bool, true, false, cond, List, [], ◌∷◌, ◌++◌, length, Option, Some, None, refl, arith}
use Rattle.std.specs.Prelude.{codes, ℤ, pos, negsuc}
use Rattle.std.specs.List.{AllByRecursion, flat_map}
use Rattle.std.proofs.lemmas.List.{length-append}
use Rattle.std.proofs.lemmas.Bool.{ltb-true}
use Rattle.il_model.specs.Dialects.{newest}
use Rattle.il_model.specs.declared.dialect.Dialect.{Dialect}
use Rattle.il_model.specs.declared.dialect.Dialect.TheVariants as dialects
use Rattle.il_model.specs.declared.codes.Version.{Version}
use Rattle.il_model.specs.declared.codes.Version.TheVariants as versions
use Rattle.il_values.specs.declared.function.Function.{Function}
use Rattle.il_values.specs.declared.shift.Shift.{Shift}
use Rattle.il_values.specs.declared.shift.Shift.TheVariants as shifts
use Rattle.il_values.specs.declared.function.Function.TheVariants as functions
use Rattle.il_model.specs.Image.{version_of}
use Rattle.il_model.specs.Limits.{most_variables, most_instances, most_instructions}
use Rattle.il_values.specs.declared.value.Ty.{Ty}
use Rattle.il_values.specs.declared.value.Ty.TheVariants as types
use Rattle.il_values.specs.declared.value.Value.{Value}
use Rattle.il_values.specs.declared.value.Value.TheVariants as values
use Rattle.il_values.specs.declared.op.Op.{Op}
use Rattle.il_values.specs.declared.op.Op.TheVariants as ops
use Rattle.il_values.specs.declared.op.Modifier.{Modifier}
use Rattle.il_model.specs.declared.program.Area.{Area}
use Rattle.il_model.specs.declared.program.Area.TheVariants as areas
use Rattle.il_model.specs.declared.program.Loc.{Loc}
use Rattle.il_model.specs.declared.program.Loc.TheVariants.{Bit, Word, Pattern, Double}
use Rattle.il_model.specs.declared.program.Variable.{Variable}
use Rattle.il_model.specs.declared.program.Instance.{Instance}
use Rattle.il_model.specs.declared.kind.BlockKind.{BlockKind}
use Rattle.il_model.specs.declared.kind.BlockKind.TheVariants as kinds
use Rattle.il_model.specs.declared.program.Operand.{Operand}
use Rattle.il_model.specs.declared.program.Operand.TheVariants as operands
use Rattle.il_model.specs.declared.program.Side.{Side}
use Rattle.il_model.specs.declared.program.Side.TheVariants as sides
use Rattle.il_model.specs.declared.program.Argument.{Argument}
use Rattle.il_model.specs.declared.program.Instr.{Instr}
use Rattle.il_model.specs.Program.{Program, Declarations, declared_by}
use Rattle.il_values.specs.Values.{is_within, number_of}
use Rattle.il_values.specs.Operators.{is_zero}
use Rattle.il_model.specs.Kinds.{kind_name}
use Rattle.il_model.specs.Marks.{word_count, words_in}
use Rattle.il_model.specs.Fits.{IsImage}
use Rattle.il_model.specs.CodedOperands.{IsCell}
use Rattle.il_model.specs.Codes.{longest_name, is_empty}
use Rattle.il_reader.specs.Texts.{text_limit}
use Rattle.il_lister.specs.Listing.{decimal, number_text, literal_text, area_letter, location_text, type_name, shift_name, at_text, initial_text, variable_text, instance_text, function_name, op_name, letter, operator_text, operand_text, behind_text, side_text, argument_text, next_argument_text, arguments_text, label_text, line_text, reads_as_qualifier, qualifier_text, section_text, turn_text, variables_text, instances_text, first_retained, first_name, last_retained, opening, listing}
use Rattle.laws_listing.proofs.Sayable.{dialect_for, sayable}
use Rattle.laws_listing.proofs.Numerals.{decimal_length}
use Rattle.laws_listing.proofs.RealTexts.{real_so}
use Rattle.il_model.proofs.LiteralLaws.{IsValue}
use Rattle.il_model.proofs.LocationLaws.{double_fits}
use Rattle.laws_listing.proofs.NameTexts.{IsFreeName, at_least}
use Rattle.laws_listing.proofs.Listable.{if_some, IsValueOperand, IsListedOperand, IsListedArgument, IsListedLabel, IsListedLine, listable}
use Rattle.laws_listing.proofs.Written.{is_long_field}
use Rattle.laws_listing.proofs.Declares.{IsListedVariable, variables_listed}

-- so many bytes at most
record AtMost (n : ℕ) (xs : List ℕ) : Type 0 where
  le : length xs ≤ n

join : {m n : ℕ} {xs ys : List ℕ} → AtMost m xs → AtMost n ys → AtMost (m + n) (xs ++ ys)
join {m} {n} {xs} {ys} a b = let p = a.le in let q = b.le in record { le = omega (arith, length-append xs ys, p, q) }

wider : (m n : ℕ) (xs : List ℕ) → AtMost m xs → m ≤ n → AtMost n xs
wider m n xs a le = let p = a.le in record { le = omega (arith, p, le) }

-- ---- literals and locations

number_most : (z : ℤ) → is_within (2 ^ 31) z ≡ true → AtMost 11 (number_text z)
number_most (pos n) e =
    let lt = ltb-true n (2 ^ 31) e in
    let d = decimal_length 10 n (omega arith) (omega (arith, lt)) in
    record { le = omega (arith, d) }
number_most (negsuc n) e =
    let lt = ltb-true n (2 ^ 31) e in
    let d = decimal_length 10 (suc n) (omega arith) (omega (arith, lt)) in
    record { le = omega (arith, d) }

long_most : (z : ℤ) → is_within (2 ^ 63) z ≡ true → AtMost 20 (number_text z)
long_most (pos n) e =
    let lt = ltb-true n (2 ^ 63) e in
    let d = decimal_length 19 n (omega arith) (omega (arith, lt)) in
    record { le = omega (arith, d) }
long_most (negsuc n) e =
    let lt = ltb-true n (2 ^ 63) e in
    let d = decimal_length 19 (suc n) (omega arith) (omega (arith, lt)) in
    record { le = omega (arith, d) }

within_more : (z : ℤ) → is_within (2 ^ 15) z ≡ true → AtMost 11 (number_text z)
within_more (pos n) e =
    let lt = ltb-true n (2 ^ 15) e in
    let d = decimal_length 10 n (omega arith) (omega (arith, lt)) in
    record { le = omega (arith, d) }
within_more (negsuc n) e =
    let lt = ltb-true n (2 ^ 15) e in
    let d = decimal_length 10 (suc n) (omega arith) (omega (arith, lt)) in
    record { le = omega (arith, d) }

word_most : (n : ℕ) (xs : List ℕ) → length xs ≤ n → AtMost n xs
word_most n xs le = record { le = le }

literal_most : (v : Value) → IsValue v → AtMost 36 (literal_text v)
literal_most (values.Bool true) is = record { le = omega arith }
literal_most (values.Bool false) is = record { le = omega arith }
literal_most (values.Int z) is =
    let m = within_more z (if_some (is_within (2 ^ 15) z) (values.Int z) (values.Int z) is).0 in
    let p = m.le in
    record { le = omega (arith, p) }
literal_most (values.Dint z) is =
    let m = number_most z (if_some (is_within (2 ^ 31) z) (values.Dint z) (values.Dint z) is).0 in
    let p = m.le in
    record { le = omega (arith, p) }
literal_most (values.Lint z) is =
    let m = long_most z (if_some (is_within (2 ^ 63) z) (values.Lint z) (values.Lint z) is).0 in
    let p = m.le in
    record { le = omega (arith, p) }
literal_most (values.Time z) is =
    let m = number_most z (if_some (is_within (2 ^ 31) z) (values.Time z) (values.Time z) is).0 in
    let p = m.le in
    record { le = omega (arith, p, length-append (number_text z) (codes "ms")) }
literal_most (values.Word n) is = record { le = omega arith }
literal_most (values.Dword n) is = record { le = omega arith }
literal_most (values.Real r) is =
    let p = (real_so r).short in
    record { le = omega (arith, p) }

area_most : (area : Area) → AtMost 1 (area_letter area)
area_most areas.Input = record { le = omega arith }
area_most areas.Output = record { le = omega arith }
area_most areas.Memory = record { le = omega arith }

fixed : (xs : List ℕ) → AtMost (length xs) xs
fixed xs = record { le = omega arith }

decimal_most : (k n : ℕ) → 0 < k → n < 10 ^ k → AtMost k (decimal n)
decimal_most k n some lt = record { le = decimal_length k n some lt }

location_most : (loc : Loc) → IsCell loc → AtMost 7 (location_text loc)
location_most (Bit area n) lt =
    let whole : n / 8 < 100 = omega (arith, lt) in
    let rest : n % 8 < 10 = omega (arith, lt) in
    join (fixed (codes "%")) (join (area_most area) (join (fixed (codes "X")) (join (decimal_most 2 (n / 8) (omega arith) whole) (join (fixed (codes ".")) (decimal_most 1 (n % 8) (omega arith) rest)))))
location_most (Word area n) lt =
    let small : n < 100 = omega (arith, lt) in
    wider 5 7 (location_text (Word area n)) (join (fixed (codes "%")) (join (area_most area) (join (fixed (codes "W")) (decimal_most 2 n (omega arith) small)))) (omega arith)
location_most (Pattern area n) lt =
    let small : n < 100 = omega (arith, lt) in
    wider 5 7 (location_text (Pattern area n)) (join (fixed (codes "%")) (join (area_most area) (join (fixed (codes "W")) (decimal_most 2 n (omega arith) small)))) (omega arith)
location_most (Double area n t) begins =
    let small : n < 100 = omega (arith, double_fits n begins) in
    wider 5 7 (location_text (Double area n t)) (join (fixed (codes "%")) (join (area_most area) (join (fixed (codes "D")) (decimal_most 2 n (omega arith) small)))) (omega arith)

-- ---- declarations

type_most : (type : Ty) → AtMost 5 (type_name type)
type_most types.Bool = record { le = omega arith }
type_most types.Int = record { le = omega arith }
type_most types.Dint = record { le = omega arith }
type_most types.Time = record { le = omega arith }
type_most types.Lint = record { le = omega arith }
type_most types.Real = record { le = omega arith }
type_most types.Word = record { le = omega arith }
type_most types.Dword = record { le = omega arith }

kind_most : (kind : BlockKind) → AtMost 6 (kind_name kind)
kind_most kinds.Sr = record { le = omega arith }
kind_most kinds.Rs = record { le = omega arith }
kind_most kinds.RTrig = record { le = omega arith }
kind_most kinds.FTrig = record { le = omega arith }
kind_most kinds.Ctu = record { le = omega arith }
kind_most kinds.Ctd = record { le = omega arith }
kind_most kinds.Ctud = record { le = omega arith }
kind_most kinds.Tp = record { le = omega arith }
kind_most kinds.Ton = record { le = omega arith }
kind_most kinds.Tof = record { le = omega arith }

-- the longest name of a dialect's texts
abbrev longest : Dialect → ℕ
longest dialect = longest_name (newest dialect)

name_most : (dialect : Dialect) (w : List ℕ) → IsFreeName dialect w → AtMost (longest dialect) w
name_most dialect w is = record { le = is.name.short }

at_most : (o : Option Loc) → ((loc : Loc) → o ≡ Some loc → IsCell loc) → AtMost 11 (at_text o)
at_most None place = record { le = omega arith }
at_most (Some loc) place = join (fixed (codes " AT ")) (location_most loc (place loc refl))

initial_if : (b : Bool) (v : Value) → IsValue v → AtMost 40 (cond b [] (codes " := " ++ literal_text v))
initial_if true v is = record { le = omega arith }
initial_if false v is = join (fixed (codes " := ")) (literal_most v is)

initial_most : (v : Value) → IsValue v → AtMost 40 (initial_text v)
initial_most v is = initial_if (is_zero (number_of v)) v is

variable_most : (dialect : Dialect) (v : Variable) → IsListedVariable dialect v → AtMost (longest dialect + 61) (variable_text v)
variable_most dialect v is = join (name_most dialect v.name is.name) (join (at_most v.location is.place) (join (fixed (codes " : ")) (join (type_most v.ty) (join (initial_most v.initial is.value.value) (fixed (codes ";\n"))))))

instance_most : (dialect : Dialect) (x : Instance) → IsFreeName dialect x.name → AtMost (longest dialect + 11) (instance_text x)
instance_most dialect x is = join (name_most dialect x.name is) (join (fixed (codes " : ")) (join (kind_most x.kind) (fixed (codes ";\n"))))

-- ---- sections

qualifier_by : (b : Bool) → AtMost 11 (cond b (codes " NON_RETAIN") [])
qualifier_by true = record { le = omega arith }
qualifier_by false = record { le = omega arith }

qualifier_most : (retained : Bool) (w : List ℕ) → AtMost 11 (qualifier_text retained w)
qualifier_most true w = record { le = omega arith }
qualifier_most false w = qualifier_by (reads_as_qualifier w)

section_most : (retained : Bool) (w : List ℕ) → AtMost 22 (section_text retained w)
section_most retained w = join (fixed (codes "VAR_GLOBAL")) (join (qualifier_most retained w) (fixed (codes "\n")))

turn_most : (before retained : Bool) (w : List ℕ) → AtMost 30 (turn_text before retained w)
turn_most true true w = record { le = omega arith }
turn_most false false w = record { le = omega arith }
turn_most true false w = join (fixed (codes "END_VAR\n")) (section_most false w)
turn_most false true w = join (fixed (codes "END_VAR\n")) (section_most true w)

variables_most : (dialect : Dialect) (before : Bool) (vs : List Variable) → AllByRecursion (IsListedVariable dialect) vs → AtMost ((longest dialect + 91) * length vs) (variables_text before vs)
variables_most dialect before [] all = record { le = omega arith }
variables_most dialect before (v ∷ vs) all =
    let h = (join (turn_most before v.retained v.name) (join (variable_most dialect v all.0) (variables_most dialect v.retained vs all.1))).le in
    record { le = omega (arith, h) }

instances_most : (dialect : Dialect) (before : Bool) (xs : List Instance) → AllByRecursion (λ (x : Instance). IsFreeName dialect x.name) xs → AtMost ((longest dialect + 41) * length xs) (instances_text before xs)
instances_most dialect before [] all = record { le = omega arith }
instances_most dialect before (x ∷ xs) all =
    let h = (join (turn_most before x.retained x.name) (join (instance_most dialect x all.0) (instances_most dialect x.retained xs all.1))).le in
    record { le = omega (arith, h) }

-- each of them so many at most
all_most : {X : Type 0} (F : X → Type 0) (text : X → List ℕ) (n : ℕ) → ((x : X) → F x → AtMost n (text x)) → (xs : List X) → AllByRecursion F xs → AtMost (n * length xs) (flat_map text xs)
all_most F text n each [] all = record { le = omega arith }
all_most F text n each (x ∷ xs) all =
    let h = (join (each x all.0) (all_most F text n each xs all.1)).le in
    record { le = omega (arith, h) }

-- ---- operands and arguments

dot_most : (long : Bool) → AtMost 2 (cond long (codes " .") (codes "."))
dot_most true = record { le = omega arith }
dot_most false = record { le = omega arith }

short_value : (dialect : Dialect) (n : ℕ) (xs : List ℕ) → AtMost n xs → n ≤ 37 → AtMost (longest dialect + 5) xs
short_value dialect n xs is le = let least = at_least dialect in let h = is.le in record { le = omega (arith, least, h, le) }

value_most : (dialect : Dialect) (ds : Declarations) (o : Operand) → IsValueOperand dialect ds o → AtMost (longest dialect + 5) (operand_text o)
value_most dialect ds operands.Absent is = absurd is
value_most dialect ds (operands.Literal v) is = short_value dialect 36 (literal_text v) (literal_most v is.value) (omega arith)
value_most dialect ds (operands.Bare z) is = absurd is
value_most dialect ds (operands.Variable w) is = let h = (name_most dialect w is.0).le in record { le = omega (arith, h) }
value_most dialect ds (operands.Direct loc) is = short_value dialect 7 (location_text loc) (location_most loc is.0) (omega arith)
value_most dialect ds (operands.Label w) is = absurd is
value_most dialect ds (operands.Field w field) is = join (name_most dialect w is.0) (join (dot_most (is_long_field w field)) (word_most 3 field is.1.small))
value_most dialect ds (operands.Instance w) is = absurd is

-- behind a blank
blank_most : (dialect : Dialect) (xs : List ℕ) → AtMost (longest dialect + 5) xs → AtMost (longest dialect + 6) (codes " " ++ xs)
blank_most dialect xs is = let h = is.le in record { le = omega (arith, h) }

name_behind : (dialect : Dialect) (w : List ℕ) → IsFreeName dialect w → AtMost (longest dialect + 6) (codes " " ++ w)
name_behind dialect w is = let h = (name_most dialect w is).le in record { le = omega (arith, h) }

behind_most : (dialect : Dialect) (ds : Declarations) (o : Operand) → IsListedOperand dialect ds o → AtMost (longest dialect + 6) (behind_text o)
behind_most dialect ds operands.Absent is = record { le = omega arith }
behind_most dialect ds (operands.Literal v) is = blank_most dialect (literal_text v) (value_most dialect ds (operands.Literal v) is)
behind_most dialect ds (operands.Bare z) is = absurd is
behind_most dialect ds (operands.Variable w) is = blank_most dialect w (value_most dialect ds (operands.Variable w) is)
behind_most dialect ds (operands.Direct loc) is = blank_most dialect (location_text loc) (value_most dialect ds (operands.Direct loc) is)
behind_most dialect ds (operands.Label w) is = name_behind dialect w is
behind_most dialect ds (operands.Field w field) is = blank_most dialect (operand_text (operands.Field w field)) (value_most dialect ds (operands.Field w field) is)
behind_most dialect ds (operands.Instance w) is = name_behind dialect w is.0

side_most : (side : Side) → AtMost 4 (side_text side)
side_most sides.Input = record { le = omega arith }
side_most sides.Output = record { le = omega arith }

argument_most : (dialect : Dialect) (ds : Declarations) (a : Argument) → IsListedArgument dialect ds a → AtMost (longest dialect + 12) (argument_text a)
argument_most dialect ds a is =
    let h = (join (word_most 3 a.field is.field.small) (join (side_most a.side) (value_most dialect ds a.operand is.operand))).le in
    record { le = omega (arith, h) }

next_most : (dialect : Dialect) (ds : Declarations) (a : Argument) → IsListedArgument dialect ds a → AtMost (longest dialect + 14) (next_argument_text a)
next_most dialect ds a is =
    let h = (join (fixed (codes ", ")) (argument_most dialect ds a is)).le in
    record { le = omega (arith, h) }

arguments_most : (dialect : Dialect) (ds : Declarations) (args : List Argument) → AllByRecursion (IsListedArgument dialect ds) args → AtMost ((longest dialect + 14) * length args) (arguments_text args)
arguments_most dialect ds [] all = record { le = omega arith }
arguments_most dialect ds (a ∷ more) all =
    let h = (join (fixed (codes "(")) (join (argument_most dialect ds a all.0) (join (all_most (IsListedArgument dialect ds) next_argument_text (longest dialect + 14) (next_most dialect ds) more all.1) (fixed (codes ")"))))).le in
    record { le = omega (arith, h) }

-- ---- lines

function_most : (f : Function) → AtMost 13 (function_name f)
function_most functions.IntToReal = record { le = omega arith }
function_most functions.DintToReal = record { le = omega arith }
function_most functions.LintToReal = record { le = omega arith }
function_most functions.TimeToReal = record { le = omega arith }
function_most functions.RealToInt = record { le = omega arith }
function_most functions.RealToDint = record { le = omega arith }
function_most functions.RealToLint = record { le = omega arith }
function_most functions.RealToTime = record { le = omega arith }
function_most functions.Trunc = record { le = omega arith }
function_most functions.Abs = record { le = omega arith }
function_most functions.Sqrt = record { le = omega arith }
function_most functions.TimeToDint = record { le = omega arith }
function_most functions.DintToTime = record { le = omega arith }
function_most functions.Move = record { le = omega arith }
function_most functions.WordToInt = record { le = omega arith }
function_most functions.IntToWord = record { le = omega arith }
function_most functions.DwordToDint = record { le = omega arith }
function_most functions.DintToDword = record { le = omega arith }
function_most functions.WordToDword = record { le = omega arith }
function_most functions.DwordToWord = record { le = omega arith }

shift_most : (s : Shift) → AtMost 13 (shift_name s)
shift_most shifts.Left = record { le = omega arith }
shift_most shifts.Right = record { le = omega arith }
shift_most shifts.RotateLeft = record { le = omega arith }
shift_most shifts.RotateRight = record { le = omega arith }

op_most : (op : Op) → AtMost 13 (op_name op)
op_most ops.IntToDint = record { le = omega arith }
op_most ops.DintToInt = record { le = omega arith }
op_most ops.DintToLint = record { le = omega arith }
op_most ops.LintToDint = record { le = omega arith }
op_most (ops.Apply f) = function_most f
op_most (ops.Shift s) = shift_most s
op_most op = record { le = omega arith }

letter_most : (b : Bool) (n : ℕ) (xs : List ℕ) → AtMost n xs → AtMost n (letter b xs)
letter_most true n xs is = is
letter_most false n xs is = record { le = omega arith }

operator_most : (op : Op) (m : Modifier) → AtMost 16 (operator_text op m)
operator_most op m = join (op_most op) (join (letter_most m.conditional 1 (codes "C") (fixed (codes "C"))) (join (letter_most m.negated 1 (codes "N") (fixed (codes "N"))) (letter_most m.opens 1 (codes "(") (fixed (codes "(")))))

colon_most : (b : Bool) → AtMost 2 (cond b (codes ":") (codes ": "))
colon_most true = record { le = omega arith }
colon_most false = record { le = omega arith }

label_most : (dialect : Dialect) (op : Op) (o : Option (List ℕ)) → IsListedLabel dialect o → AtMost (longest dialect + 2) (label_text op o)
label_most dialect op None is = record { le = omega arith }
label_most dialect op (Some w) is = join (name_most dialect w is) (colon_most (is_empty op))

line_most : (dialect : Dialect) (ds : Declarations) (line : Instr) → IsListedLine dialect ds line → AtMost ((longest dialect + 14) * word_count line + (longest dialect + 11)) (line_text line)
line_most dialect ds line is =
    let h = (join (label_most dialect line.op line.label is.label) (join (join (operator_most line.op line.modifier) (join (behind_most dialect ds line.operand is.operand) (arguments_most dialect ds line.arguments is.arguments))) (fixed (codes "\n")))).le in
    record { le = omega (arith, h) }

lines_most : (dialect : Dialect) (ds : Declarations) (code : List Instr) → AllByRecursion (IsListedLine dialect ds) code → AtMost ((longest dialect + 14) * words_in code + (longest dialect + 11) * length code) (flat_map line_text code)
lines_most dialect ds [] all = record { le = omega arith }
lines_most dialect ds (line ∷ code) all =
    let h = (join (line_most dialect ds line all.0) (lines_most dialect ds code all.1)).le in
    record { le = omega (arith, h) }

-- ---- the whole

opening_most : (version : Version) (retained : Bool) (w : List ℕ) → AtMost 22 (opening version retained w)
opening_most versions.One retained w = record { le = omega arith }
opening_most versions.Two retained w = record { le = omega arith }
opening_most versions.Three retained w = section_most retained w

-- what that comes to, by the names of a dialect
limit_holds : (dialect : Dialect) (n vs xs words lines : ℕ) → vs ≤ most_variables (newest dialect) → xs ≤ most_instances (newest dialect) → words ≤ 36864 → lines ≤ most_instructions (newest dialect)
    → n ≤ 22 + ((longest dialect + 91) * vs + ((longest dialect + 41) * xs + (8 + ((longest dialect + 14) * words + (longest dialect + 11) * lines)))) → n ≤ text_limit dialect
limit_holds dialects.Plain n vs xs words lines a b c d h = omega arith
limit_holds dialects.Extended n vs xs words lines a b c d h = omega arith

pub listing_short : (Q : Program) → IsImage Q → length (listing Q) ≤ text_limit (dialect_for (version_of Q))
listing_short Q is =
    let dialect = dialect_for (version_of Q) in
    let said = sayable Q is in
    let all = listable dialect Q said in
    let first = first_retained Q.variables Q.instances in
    let vs = variables_most dialect first Q.variables (variables_listed dialect Q said) in
    let xs = instances_most dialect (last_retained first Q.variables) Q.instances all.names.instances in
    let code = lines_most dialect (declared_by Q) Q.code all.lines in
    let h = join (opening_most (version_of Q) first (first_name Q.variables Q.instances)) (join vs (join xs (join (fixed (codes "END_VAR\n")) code))) in
    limit_holds dialect (length (listing Q)) (length Q.variables) (length Q.instances) (words_in Q.code) (length Q.code) said.within.variables said.within.instances is.text.words_few said.within.code h.le
