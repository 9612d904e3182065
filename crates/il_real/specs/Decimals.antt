-- The decimal of fewest digits that a number above 0 is nearest to, as it is found: from thirteen of its digits or fewer.
use Rattle.std.specs.Prelude.{ℕ, ◌+◌, ◌-◌, ◌*◌, ◌/◌, ◌%◌, pos, ◌-ℤ◌, false, nat_lt, if◌then◌else◌}
use Rattle.std.specs.Float.{Float, binary32, binary64, round_ties_even, float_to_unsigned, float_with_sign}
use Rattle.std.specs.Int.{w64}
use lib.Ieee.{mul, eq}
use Rattle.fast_float.specs.Rounding.{nearest_to_decimal}
use Rattle.il_real.specs.declared.decimal.Decimal.{Decimal}
use Rattle.il_real.specs.declared.real.Real.{Real}
use Rattle.il_real.specs.Reals.{number}

-- the number that a decimal is, as binary32 has it; the place of ones is 53
abbrev pub decimal_number : Decimal → Float
decimal_number d = nearest_to_decimal binary32 false d.digits (pos d.place -ℤ pos 53)

-- a place so low that the digits down to it tell a value, by the exponent in its pattern
abbrev pub place_of : ℕ → ℕ
place_of pattern = 4 + pattern / 8388608 % 256 * 1233 / 4096

-- how often a number has the power of ten of a place, to the nearest whole number, as binary64 has it
abbrev pub digits_at : Float → ℕ → ℕ
digits_at x place = float_to_unsigned w64
    (round_ties_even binary64 (mul binary64 x (nearest_to_decimal binary64 false 1 (pos 53 -ℤ pos place))))

-- 10 ^ 13 at most, which no value comes near
abbrev pub held_digits : ℕ → ℕ
held_digits n = if nat_lt n 10000000000000 then n else 10000000000000

abbrev pub first_digits : Float → ℕ → Decimal
first_digits x place = record { digits = held_digits (digits_at x place); place = place }

-- with n digits fewer, where a unit is the n-th power of ten: the nearest, of two the even one
abbrev pub rounded : Decimal → ℕ → ℕ → Decimal
rounded d unit n = record { digits = (d.digits + (unit / 2 - 1) + d.digits / unit % 2) / unit; place = d.place + n }

-- the shorter one, if the number is nearest to it
abbrev pub shorter_or : Float → Decimal → Decimal → Decimal
shorter_or x shorter d = if eq (decimal_number shorter) x then shorter else d

-- up to twelve digits fewer, as many as leave it the number
unfoldable pub shortened : Decimal → Float → Decimal
shortened d x =
    shorter_or x (rounded d 1000000000000 12)
    (shorter_or x (rounded d 100000000000 11)
    (shorter_or x (rounded d 10000000000 10)
    (shorter_or x (rounded d 1000000000 9)
    (shorter_or x (rounded d 100000000 8)
    (shorter_or x (rounded d 10000000 7)
    (shorter_or x (rounded d 1000000 6)
    (shorter_or x (rounded d 100000 5)
    (shorter_or x (rounded d 10000 4)
    (shorter_or x (rounded d 1000 3) d)))))))))

abbrev pub short_decimal : Real → Decimal
short_decimal r =
    shortened (first_digits (float_with_sign false (number r)) (place_of r.pattern)) (float_with_sign false (number r))
