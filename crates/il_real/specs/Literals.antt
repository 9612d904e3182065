-- Literals of REAL (IEC 61131-3:2003, B.1.2.1): a sign or none, digits, and a point with digits, an exponent, or both.
-- One of its own kind is P and a pattern: P1065353216 is 1.0.
use Rattle.std.specs.Prelude.{ℕ, ◌+◌, ◌-◌, ◌*◌, Bool, true, false, ◌&&◌, List, [], ◌∷◌, length, ◌==◌, nat_lt, nat_le}
use Rattle.std.specs.Prelude.{Option, Some, None}
use Rattle.std.specs.Prelude.{if◌then◌else◌}
use Rattle.std.specs.Option.{option_and_then}
use Rattle.std.specs.Float.{binary32}
use Rattle.std.specs.Float.Numeral.{Parts, scan_numeral, nearest_float}
use Rattle.il_real.specs.declared.real.Real.{Real}
use Rattle.il_real.specs.Reals.{real_of, with_pattern}

-- digits stand behind the point, or there is an exponent
abbrev pub has_more : Parts → Bool
has_more p = if p.point then nat_lt 0 (length p.fraction) else nat_lt 0 (length p.exponent)

-- the parts that a text begins with are the whole text, and begin with digits
abbrev pub is_unsigned_real : List ℕ → Parts → Bool
is_unsigned_real text p = p.len == length text && (nat_lt 0 (length p.whole) && has_more p)

-- the value nearest to the number that a text writes behind its sign
abbrev pub unsigned_real : Bool → List ℕ → Option Real
unsigned_real negative text = if is_unsigned_real text (scan_numeral text)
    then real_of (nearest_float binary32 negative (scan_numeral text)) else None

-- ---- by a pattern

-- a decimal digit, with which the number that stands before it fits in 32 bits
abbrev pub is_next : ℕ → ℕ → Bool
is_next n b = nat_le 48 b && (nat_le b 57 && nat_lt (n * 10 + (b - 48)) 4294967296)

-- the number that digits write behind one
unfoldable pub pattern_behind : ℕ → List ℕ → Option ℕ
pattern_behind n [] = Some n
pattern_behind n (b ∷ bs) = if is_next n b then pattern_behind (n * 10 + (b - 48)) bs else None

abbrev pub patterned : List ℕ → Option Real
patterned bs = if length bs == 0 then None else option_and_then with_pattern (pattern_behind 0 bs)

-- ---- the whole

unfoldable pub real_literal : List ℕ → Option Real
real_literal [] = unsigned_real false []
real_literal (b ∷ bs) =
    if b == 45 then unsigned_real true bs
    else if b == 43 then unsigned_real false bs
    else if b == 80 then patterned bs
    else unsigned_real false (b ∷ bs)
