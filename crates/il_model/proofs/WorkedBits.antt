-- Worked rows of bit strings: operators, shifts, conversions, literals, digits, places and codes.
use Rattle.std.proofs.Common.{◌≡◌, true, false, [], ◌∷◌, Some, None, Ok, Err, refl}
use Rattle.std.specs.Prelude.{pos, negsuc, codes}
use Rattle.std.specs.Int.{w16, w32}
use Rattle.il_values.specs.declared.value.Ty.TheVariants as types
use Rattle.il_values.specs.declared.value.Value.TheVariants as values
use Rattle.il_values.specs.declared.value.Stop.TheVariants as stops
use Rattle.il_values.specs.declared.op.Op.TheVariants as ops
use Rattle.il_values.specs.declared.function.Function.TheVariants as functions
use Rattle.il_values.specs.declared.shift.Shift.TheVariants as shifts
use Rattle.il_model.specs.declared.dialect.Dialect.TheVariants as dialects
use Rattle.il_model.specs.declared.literal.Literal.TheVariants as literals
use Rattle.il_model.specs.declared.program.Area.TheVariants as areas
use Rattle.il_model.specs.declared.program.Loc.TheVariants.{Bit, Word, Pattern, Double}
use Rattle.il_model.specs.declared.program.DoubleType.TheVariants as doubles
use Rattle.il_model.specs.declared.program.Variable.{Variable}
use Rattle.il_model.specs.declared.codes.Version.TheVariants as versions
use Rattle.il_values.specs.Values.{typed_value, bare_value}
use Rattle.il_values.specs.Operators.{operation_result, joined_type}
use Rattle.il_values.specs.Functions.{function_result}
use Rattle.il_values.specs.BitStrings.{hex_word, hex_double}
use Rattle.il_values.specs.Spelled.{spells}
use Rattle.il_model.specs.Literals.{are_digits, value_behind, literal_of}
use Rattle.il_model.specs.Dialects.{literal_in}
use Rattle.il_model.specs.Settled.{settled_number}
use Rattle.il_model.specs.Locations.{seen_as}
use Rattle.il_model.specs.CodedOperands.{loc_code, any_loc}
use Rattle.il_model.specs.Codes.{is_overlapped, coded_location_in}
use Rattle.il_values.specs.OpCodes.{op_of}
use Rattle.il_model.specs.Doubles.{double_value, word_value}

-- ---- bit by bit

both : operation_result ops.And (values.Word 0xFF0F) (values.Word 0x0FF0) ≡ Some (Ok (values.Word 0x0F00))
both = refl

either : operation_result ops.Or (values.Dword 0xFF000000) (values.Dword 0xF) ≡ Some (Ok (values.Dword 0xFF00000F))
either = refl

one_of_both : operation_result ops.Xor (values.Word 0xFFFF) (values.Word 0x00FF) ≡ Some (Ok (values.Word 0xFF00))
one_of_both = refl

same_bits : operation_result ops.Eq (values.Word 0x8000) (values.Word 0x8000) ≡ Some (Ok (values.Bool true))
same_bits = refl

no_order : operation_result ops.Lt (values.Word 0) (values.Word 1) ≡ None
no_order = refl

no_sum : operation_result ops.Add (values.Word 0) (values.Word 1) ≡ None
no_sum = refl

no_mixture : operation_result ops.And (values.Word 0) (values.Dword 1) ≡ None
no_mixture = refl

-- ---- shifts and rotations

to_the_left : operation_result (ops.Shift shifts.Left) (values.Word 0x8001) (values.Int (pos 4)) ≡ Some (Ok (values.Word 0x0010))
to_the_left = refl

by_none : operation_result (ops.Shift shifts.Left) (values.Word 0x8001) (values.Int (pos 0)) ≡ Some (Ok (values.Word 0x8001))
by_none = refl

by_the_width : operation_result (ops.Shift shifts.Left) (values.Word 0xFFFF) (values.Int (pos 16)) ≡ Some (Ok (values.Word 0))
by_the_width = refl

by_more : operation_result (ops.Shift shifts.Right) (values.Dword 0xFFFFFFFF) (values.Int (pos 33)) ≡ Some (Ok (values.Dword 0))
by_more = refl

to_the_right : operation_result (ops.Shift shifts.Right) (values.Word 0x8000) (values.Int (pos 15)) ≡ Some (Ok (values.Word 1))
to_the_right = refl

below_none : operation_result (ops.Shift shifts.Right) (values.Word 0x8000) (values.Int (negsuc 0)) ≡ Some (Err stops.Overflow)
below_none = refl

around_the_left : operation_result (ops.Shift shifts.RotateLeft) (values.Word 0x8001) (values.Int (pos 4)) ≡ Some (Ok (values.Word 0x0018))
around_the_left = refl

around_the_right : operation_result (ops.Shift shifts.RotateRight) (values.Dword 0x0000000F) (values.Int (pos 2)) ≡ Some (Ok (values.Dword 0xC0000003))
around_the_right = refl

once_around : operation_result (ops.Shift shifts.RotateLeft) (values.Word 0x1234) (values.Int (pos 16)) ≡ Some (Ok (values.Word 0x1234))
once_around = refl

more_than_once : operation_result (ops.Shift shifts.RotateRight) (values.Word 0x1234) (values.Int (pos 36)) ≡ Some (Ok (values.Word 0x4123))
more_than_once = refl

by_an_int : joined_type (ops.Shift shifts.Left) types.Dword types.Int ≡ Some types.Dword
by_an_int = refl

by_no_dint : joined_type (ops.Shift shifts.Left) types.Dword types.Dint ≡ None
by_no_dint = refl

no_shift_of_a_number : joined_type (ops.Shift shifts.Left) types.Int types.Int ≡ None
no_shift_of_a_number = refl

-- ---- conversions by pattern

all_ones : function_result functions.WordToInt (values.Word 0xFFFF) ≡ Some (Ok (values.Int (negsuc 0)))
all_ones = refl

minus_one : function_result functions.IntToWord (values.Int (negsuc 0)) ≡ Some (Ok (values.Word 0xFFFF))
minus_one = refl

least : function_result functions.DwordToDint (values.Dword 0x80000000) ≡ Some (Ok (values.Dint (negsuc 2147483647)))
least = refl

least_back : function_result functions.DintToDword (values.Dint (negsuc 2147483647)) ≡ Some (Ok (values.Dword 0x80000000))
least_back = refl

low_half : function_result functions.DwordToWord (values.Dword 0x1234ABCD) ≡ Some (Ok (values.Word 0xABCD))
low_half = refl

no_real : function_result functions.WordToInt (values.Dword 0) ≡ None
no_real = refl

-- ---- literals

hexadecimal : literal_in dialects.Extended (codes "WORD#16#00FF") ≡ Some (literals.Typed (values.Word 255))
unfolding spells are_digits value_behind
hexadecimal = refl

small_letters : literal_in dialects.Extended (codes "dword#16#ffff_ffff") ≡ Some (literals.Typed (values.Dword 0xFFFFFFFF))
unfolding spells are_digits value_behind
small_letters = refl

too_wide : literal_in dialects.Extended (codes "WORD#16#1_0000") ≡ None
unfolding spells are_digits value_behind
too_wide = refl

below_zero : literal_in dialects.Extended (codes "WORD#-1") ≡ None
unfolding spells are_digits value_behind
below_zero = refl

of_today : literal_in dialects.Plain (codes "WORD#16#FF") ≡ None
unfolding spells are_digits value_behind literal_of
of_today = refl

bare_mask : bare_value types.Word (pos 0xFFFF) ≡ Some (values.Word 0xFFFF)
bare_mask = refl

bare_minus : bare_value types.Word (negsuc 0) ≡ None
bare_minus = refl

places_are_int : settled_number (Some types.Word) (ops.Shift shifts.Left) false (pos 4) ≡ Some (values.Int (pos 4))
places_are_int = refl

mask_is_word : settled_number (Some types.Word) ops.And false (pos 255) ≡ Some (values.Word 255)
mask_is_word = refl

-- ---- digits

four_digits : hex_word 0x0A9F ≡ codes "0A9F"
four_digits = refl

eight_digits : hex_double 0x80000001 ≡ codes "80000001"
eight_digits = refl

-- ---- places and codes

word_as_word : seen_as types.Word (Word areas.Output 3) ≡ Pattern areas.Output 3
word_as_word = refl

word_as_int : seen_as types.Int (Word areas.Output 3) ≡ Word areas.Output 3
word_as_int = refl

double_as_dword : seen_as types.Dword (Double areas.Input 2 doubles.Dint) ≡ Double areas.Input 2 doubles.Dword
double_as_dword = refl

code_of_pattern : loc_code (Pattern areas.Output 3) ≡ 0x1903
code_of_pattern = refl

pattern_of_code : any_loc 0x2900 ≡ Some (Pattern areas.Memory 0)
pattern_of_code = refl

none_past_the_last : any_loc 0x940 ≡ None
none_past_the_last = refl

dword_of_code : any_loc 0x83E ≡ Some (Double areas.Input 62 doubles.Dword)
dword_of_code = refl

none_of_an_odd_code : any_loc 0x83F ≡ None
none_of_an_odd_code = refl

shift_of_code : op_of 67 ≡ Some (ops.Shift shifts.RotateRight)
shift_of_code = refl

none_of_next : op_of 68 ≡ None
none_of_next = refl

abbrev control : Variable
control = record { name = codes "CONTROL"; ty = types.Word; location = Some (Pattern areas.Output 3); initial = values.Word 0; retained = false }

shares_its_word : is_overlapped (control ∷ []) (Word areas.Output 3) ≡ true
shares_its_word = refl

shares_a_double_word : is_overlapped (control ∷ []) (Double areas.Output 2 doubles.Real) ≡ true
shares_a_double_word = refl

is_beside : is_overlapped (control ∷ []) (Pattern areas.Output 4) ≡ false
is_beside = refl

version_needed : coded_location_in versions.Two [] types.Word 0x1903 ≡ None
version_needed = refl

version_there : coded_location_in versions.Three [] types.Word 0x1903 ≡ Some (Some (Pattern areas.Output 3))
version_there = refl

-- ---- values of words

of_a_word : word_value (negsuc 0) ≡ values.Word 0xFFFF
of_a_word = refl

pub of_two_words : double_value doubles.Dword (negsuc 32767) (pos 1) ≡ values.Dword 0x80000001
of_two_words = refl
