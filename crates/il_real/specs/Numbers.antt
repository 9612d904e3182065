-- The numbers that are values of REAL, of all those of binary32 (IEEE 754-2019, 3.3).
use Rattle.std.specs.Prelude.{ℕ, ◌^◌, ℤ, Bool, nat_lt, ◌&&◌, not, Option, Some, None, if◌then◌else◌}
use Rattle.std.specs.Float.{Float, binary32, float_is_finite, is_sign_negative, float_to_signed}
use Rattle.std.specs.Int.{w64}
use lib.Ieee.{of_bits, eq, le, lt, neg}

-- 0.0
abbrev pub zero : Float
zero = of_bits binary32 0

-- the number with a pattern (IEEE 754-2019, 3.4)
abbrev pub number_with : ℕ → Float
number_with pattern = of_bits binary32 pattern

-- finite, and not -0
abbrev pub is_value : Float → Bool
is_value x = float_is_finite x && not (eq x zero && is_sign_negative x)

-- 32 bits that are the pattern of a value
abbrev pub is_pattern : ℕ → Bool
is_pattern pattern = nat_lt pattern (2 ^ 32) && is_value (number_with pattern)

-- from -2 ^ 63 up to 2 ^ 63, which is left out
abbrev pub is_in_64_bits : Float → Bool
is_in_64_bits x = le (neg (of_bits binary32 0x5f000000)) x && lt x (of_bits binary32 0x5f000000)

-- the whole number that a number is, where 64 bits hold it
abbrev pub whole_in_64_bits : Float → Option ℤ
whole_in_64_bits x = if is_in_64_bits x then Some (float_to_signed w64 x) else None
