-- What operators and conversions give: the exact result, rounded once to the nearest value, of two the one with an even
-- last digit (IEEE 754-2019, 4.3.1 and 5.4.1).
use Rattle.std.specs.Prelude.{ℕ, ℤ, Bool, true, false, ◌≡◌, refl, Option, Some, None, if◌then◌else◌}
use Rattle.std.specs.Float.{Float, binary32, float_is_finite, float_with_sign, is_sign_negative, round_ties_even}
use Rattle.std.specs.Float.{trunc}
use lib.Ieee.{add, sub, mul, div, sqrt, lt, le, eq, of_bits, to_bits, of_int}
use Rattle.il_real.specs.declared.real.Real.{Real}
use Rattle.il_real.specs.Numbers.{number_with, is_pattern, zero, whole_in_64_bits}

abbrev pub number : Real → Float
number r = number_with r.pattern

-- the value with a pattern, as the test goes
abbrev pub judged : (pattern : ℕ) (b : Bool) → is_pattern pattern ≡ b → Option Real
judged pattern true holds = Some (record { pattern = pattern; lawful = holds })
judged pattern false fails = None

-- the value with a pattern, if there is one
unfoldable pub with_pattern : ℕ → Option Real
with_pattern pattern = judged pattern (is_pattern pattern) refl

pub zero_is_pattern : is_pattern 0 ≡ true
unfolding of_bits float_is_finite eq is_sign_negative
zero_is_pattern = refl

-- 0.0
abbrev pub zero_real : Real
zero_real = record { pattern = 0; lawful = zero_is_pattern }

-- the value that a number is, 0.0 for -0; none where it isn't finite
unfoldable pub real_of : Float → Option Real
real_of x = if float_is_finite x then (if eq x zero then Some zero_real else with_pattern (to_bits binary32 x)) else None

-- ---- operators

abbrev pub sum : Real → Real → Option Real
sum a b = real_of (add binary32 (number a) (number b))

abbrev pub difference : Real → Real → Option Real
difference a b = real_of (sub binary32 (number a) (number b))

abbrev pub product : Real → Real → Option Real
product a b = real_of (mul binary32 (number a) (number b))

-- none where the divisor is 0
abbrev pub quotient : Real → Real → Option Real
quotient a b = real_of (div binary32 (number a) (number b))

abbrev pub root : Real → Option Real
root a = real_of (sqrt binary32 (number a))

abbrev pub magnitude : Real → Option Real
magnitude a = real_of (float_with_sign false (number a))

abbrev pub is_below : Real → Real → Bool
is_below a b = lt (number a) (number b)

abbrev pub is_at_most : Real → Real → Bool
is_at_most a b = le (number a) (number b)

abbrev pub is_equal : Real → Real → Bool
is_equal a b = eq (number a) (number b)

-- ---- conversions

abbrev pub real_of_whole : ℤ → Option Real
real_of_whole z = real_of (of_int binary32 z)

-- the nearest whole number, of two the even one
abbrev pub nearest_whole : Real → Option ℤ
nearest_whole a = whole_in_64_bits (round_ties_even binary32 (number a))

-- the next whole number towards 0
abbrev pub whole_part : Real → Option ℤ
whole_part a = whole_in_64_bits (trunc binary32 (number a))
