-- The text of a value: a decimal with a point, and an exponent where that stands far off.
use Rattle.std.specs.Prelude.{ℕ, ◌+◌, ◌-◌, List, [], ◌++◌, length, take, drop, replicate, min, nat_lt, nat_eq, codes}
use Rattle.std.specs.Prelude.{Bool, false, Option, Some, None, decimal, if◌then◌else◌}
use Rattle.std.specs.Float.{is_sign_negative}
use Rattle.il_real.specs.declared.decimal.Decimal.{Decimal}
use Rattle.il_real.specs.declared.real.Real.{Real}
use Rattle.il_real.specs.Reals.{number}
use Rattle.il_real.specs.Decimals.{short_decimal}
use Rattle.il_real.specs.Literals.{real_literal}

-- what stands behind the first digit, 0 where nothing does
abbrev pub more_digits : List ℕ → List ℕ
more_digits digits = if nat_lt 1 (length digits) then drop 1 digits else codes "0"

-- the exponent of a place; that of ones is 53
abbrev pub exponent_text : ℕ → List ℕ
exponent_text place = if nat_lt place 53 then codes "E-" ++ decimal (53 - place) else codes "E" ++ decimal (place - 53)

-- 1200.0
abbrev pub behind_text : List ℕ → ℕ → List ℕ
behind_text digits place = digits ++ (replicate (place - 53) 48 ++ codes ".0")

-- 12.34
abbrev pub inside_text : List ℕ → ℕ → List ℕ
inside_text digits place =
    take (length digits + place - 53) digits ++ (codes "." ++ drop (length digits + place - 53) digits)

-- 0.0012
abbrev pub before_text : List ℕ → ℕ → List ℕ
before_text digits place = codes "0." ++ (replicate (53 - (length digits + place)) 48 ++ digits)

-- 1.234E20
abbrev pub far_text : List ℕ → ℕ → List ℕ
far_text digits place = take (min 1 (length digits)) digits
    ++ (codes "." ++ (more_digits digits ++ exponent_text (length digits + place - 1)))

-- digits whose last has a place, with the point behind, inside or before them, or with an exponent where it is far off
unfoldable pub digits_text : List ℕ → ℕ → List ℕ
digits_text digits place =
    if nat_lt place 53
    then (if nat_lt 53 (length digits + place) then inside_text digits place
    else if nat_lt 49 (length digits + place) then before_text digits place
    else far_text digits place)
    else (if nat_lt (length digits + place) 63 then behind_text digits place else far_text digits place)

abbrev pub decimal_text : Decimal → List ℕ
decimal_text d = digits_text (decimal d.digits) d.place

abbrev pub minus_text : Bool → List ℕ
minus_text negative = if negative then codes "-" else []

-- 0 has no decimal
abbrev pub plain_text : Real → List ℕ
plain_text r = if nat_eq r.pattern 0 then codes "0.0"
    else minus_text (is_sign_negative (number r)) ++ decimal_text (short_decimal r)

abbrev pub is_found : Real → Option Real → Bool
is_found r (Some x) = nat_eq x.pattern r.pattern
is_found r None = false

-- by its pattern: of a value whose plain text isn't read back as it, and none such is known
abbrev pub pattern_text : Real → List ℕ
pattern_text r = codes "P" ++ decimal r.pattern

abbrev pub real_text : Real → List ℕ
real_text r = if is_found r (real_literal (plain_text r)) then plain_text r else pattern_text r
