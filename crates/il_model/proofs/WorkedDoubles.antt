-- Worked rows of double words: their places, their codes, their values.
use Rattle.std.proofs.Common.{◌≡◌, true, false, [], ◌∷◌, Some, None, refl}
use Rattle.std.specs.Prelude.{pos, negsuc, codes}
use Rattle.std.specs.Float.{float_is_finite, is_sign_negative}
use lib.Ieee.{eq, of_bits}
use Rattle.il_real.specs.Reals.{with_pattern, zero_real}
use Rattle.il_values.specs.declared.value.Ty.TheVariants as types
use Rattle.il_values.specs.declared.value.Value.TheVariants as values
use Rattle.il_model.specs.declared.dialect.Dialect.TheVariants as dialects
use Rattle.il_model.specs.declared.program.Area.TheVariants as areas
use Rattle.il_model.specs.declared.program.Loc.TheVariants.{Bit, Word, Double}
use Rattle.il_model.specs.declared.program.DoubleType.TheVariants as doubles
use Rattle.il_model.specs.declared.program.Variable.{Variable}
use Rattle.il_model.specs.declared.codes.Version.TheVariants as versions
use Rattle.il_model.specs.Literals.{are_digits, value_behind}
use Rattle.il_values.specs.Values.{number_of}
use Rattle.il_model.specs.Locations.{bit_at, word_at, double_at, seen_as}
use Rattle.il_model.specs.Dialects.{location_in}
use Rattle.il_model.specs.CodedOperands.{loc_code, any_loc}
use Rattle.il_model.specs.Codes.{is_overlapped, coded_location_in}
use Rattle.il_model.specs.Typing.{loc_type}
use Rattle.il_model.specs.Doubles.{double_value}

-- ---- places in a text: of an extended one alone, the even numbers from 0 to 62

an_input : location_in dialects.Extended (codes "%ID4") ≡ Some (Double areas.Input 4 doubles.Dint)
unfolding bit_at word_at double_at are_digits value_behind
an_input = refl

the_last : location_in dialects.Extended (codes "%qd62") ≡ Some (Double areas.Output 62 doubles.Dint)
unfolding bit_at word_at double_at are_digits value_behind
the_last = refl

past_the_last : location_in dialects.Extended (codes "%MD64") ≡ None
unfolding bit_at word_at double_at are_digits value_behind
past_the_last = refl

of_an_odd_number : location_in dialects.Extended (codes "%ID1") ≡ None
unfolding bit_at word_at double_at are_digits value_behind
of_an_odd_number = refl

of_the_last_word : location_in dialects.Extended (codes "%MD63") ≡ None
unfolding bit_at word_at double_at are_digits value_behind
of_the_last_word = refl

with_a_dot : location_in dialects.Extended (codes "%MD6.1") ≡ None
unfolding bit_at word_at double_at are_digits value_behind
with_a_dot = refl

of_no_number : location_in dialects.Extended (codes "%MD") ≡ None
unfolding bit_at word_at double_at are_digits value_behind
of_no_number = refl

a_word : location_in dialects.Extended (codes "%MW63") ≡ Some (Word areas.Memory 63)
unfolding bit_at word_at double_at are_digits value_behind
a_word = refl

of_today : location_in dialects.Plain (codes "%ID4") ≡ None
unfolding bit_at word_at double_at are_digits value_behind
of_today = refl

-- ---- types

as_real : seen_as types.Real (Double areas.Input 4 doubles.Dint) ≡ Double areas.Input 4 doubles.Real
as_real = refl

as_int : loc_type (seen_as types.Int (Double areas.Input 4 doubles.Dint)) ≡ Some types.Dint
as_int = refl

real_word : loc_type (seen_as types.Real (Word areas.Input 4)) ≡ Some types.Int
real_word = refl

real_type : loc_type (Double areas.Memory 62 doubles.Real) ≡ Some types.Real
real_type = refl

no_type : loc_type (Double areas.Memory 63 doubles.Real) ≡ None
no_type = refl

no_type_past_the_last : loc_type (Double areas.Memory 64 doubles.Real) ≡ None
no_type_past_the_last = refl

-- ---- codes

code_of_dint : loc_code (Double areas.Input 4 doubles.Dint) ≡ 0x504
code_of_dint = refl

code_of_time : loc_code (Double areas.Output 0 doubles.Time) ≡ 0x1600
code_of_time = refl

code_of_real : loc_code (Double areas.Memory 62 doubles.Real) ≡ 0x273E
code_of_real = refl

real_of_code : any_loc 0x273E ≡ Some (Double areas.Memory 62 doubles.Real)
real_of_code = refl

none_of_code : any_loc 0x273F ≡ None
none_of_code = refl

none_of_an_odd_code : any_loc 0x505 ≡ None
none_of_an_odd_code = refl

none_past_the_last : any_loc 0x540 ≡ None
none_past_the_last = refl

none_behind_reals : any_loc 0x740 ≡ None
none_behind_reals = refl

none_behind_words : any_loc 0x440 ≡ None
none_behind_words = refl

-- ---- who lies where

abbrev level : Variable
level = record { name = codes "LEVEL"; ty = types.Dint; location = Some (Double areas.Memory 4 doubles.Dint); initial = values.Dint (pos 0); retained = false }

shares_the_first : is_overlapped (level ∷ []) (Word areas.Memory 4) ≡ true
shares_the_first = refl

shares_the_second : is_overlapped (level ∷ []) (Word areas.Memory 5) ≡ true
shares_the_second = refl

shares_both : is_overlapped (level ∷ []) (Double areas.Memory 4 doubles.Time) ≡ true
shares_both = refl

is_next : is_overlapped (level ∷ []) (Double areas.Memory 6 doubles.Dint) ≡ false
is_next = refl

of_another_area : is_overlapped (level ∷ []) (Double areas.Output 4 doubles.Dint) ≡ false
of_another_area = refl

bits_are_apart : is_overlapped (level ∷ []) (Bit areas.Memory 64) ≡ false
bits_are_apart = refl

version_needed : coded_location_in versions.Two [] types.Real 0x704 ≡ None
version_needed = refl

version_there : coded_location_in versions.Three [] types.Real 0x704 ≡ Some (Some (Double areas.Input 4 doubles.Real))
version_there = refl

other_type : coded_location_in versions.Three [] types.Dint 0x704 ≡ None
other_type = refl

-- ---- values

high_first : double_value doubles.Dint (pos 1) (pos 2) ≡ values.Dint (pos 65538)
high_first = refl

all_ones : double_value doubles.Dint (negsuc 0) (negsuc 0) ≡ values.Dint (negsuc 0)
all_ones = refl

least : double_value doubles.Dint (negsuc 32767) (pos 0) ≡ values.Dint (negsuc 2147483647)
least = refl

low_is_unsigned : double_value doubles.Dint (pos 0) (negsuc 0) ≡ values.Dint (pos 65535)
low_is_unsigned = refl

duration : double_value doubles.Time (pos 1) (pos 0) ≡ values.Time (pos 65536)
duration = refl

one : number_of (double_value doubles.Real (pos 16256) (pos 0)) ≡ pos 0x3F800000
unfolding with_pattern of_bits float_is_finite eq is_sign_negative
one = refl

infinity : double_value doubles.Real (pos 32640) (pos 0) ≡ values.Real zero_real
unfolding with_pattern of_bits float_is_finite eq is_sign_negative
infinity = refl

no_number : double_value doubles.Real (pos 32704) (pos 1) ≡ values.Real zero_real
unfolding with_pattern of_bits float_is_finite eq is_sign_negative
no_number = refl

pub minus_zero : double_value doubles.Real (negsuc 32767) (pos 0) ≡ values.Real zero_real
unfolding with_pattern of_bits float_is_finite eq is_sign_negative
minus_zero = refl
