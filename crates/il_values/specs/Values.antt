-- Types and values: a value is of a type, with a whole number that fits it.
use Rattle.std.specs.Prelude.{ℕ, ◌^◌, Bool, true, false, ℤ, pos, negsuc, Option, Some, None, nat_lt, if◌then◌else◌}
use Rattle.std.specs.Option.{option_map}
use Rattle.il_real.specs.Reals.{with_pattern, zero_real}
use Rattle.il_values.specs.declared.value.Ty.{Ty}
use Rattle.il_values.specs.declared.value.Ty.TheVariants as types
use Rattle.il_values.specs.declared.value.Value.{Value}
use Rattle.il_values.specs.declared.value.Value.TheVariants as values

abbrev pub ty_of : Value → Ty
ty_of (values.Bool b) = types.Bool
ty_of (values.Int z) = types.Int
ty_of (values.Dint z) = types.Dint
ty_of (values.Time z) = types.Time
ty_of (values.Lint z) = types.Lint
ty_of (values.Real r) = types.Real
ty_of (values.Word n) = types.Word
ty_of (values.Dword n) = types.Dword

-- FALSE, 0, no time, 0.0, or no bit
abbrev pub zero_of : Ty → Value
zero_of types.Bool = values.Bool false
zero_of types.Int = values.Int (pos 0)
zero_of types.Dint = values.Dint (pos 0)
zero_of types.Time = values.Time (pos 0)
zero_of types.Lint = values.Lint (pos 0)
zero_of types.Real = values.Real zero_real
zero_of types.Word = values.Word 0
zero_of types.Dword = values.Dword 0

abbrev pub truth_number : Bool → ℤ
truth_number true = pos 1
truth_number false = pos 0

-- that of a REAL, of a WORD and of a DWORD is its pattern
abbrev pub number_of : Value → ℤ
number_of (values.Bool b) = truth_number b
number_of (values.Int z) = z
number_of (values.Dint z) = z
number_of (values.Time z) = z
number_of (values.Lint z) = z
number_of (values.Real r) = pos r.pattern
number_of (values.Word n) = pos n
number_of (values.Dword n) = pos n

-- from -limit up to limit, which is left out
abbrev pub is_within : ℕ → ℤ → Bool
is_within limit (pos n) = nat_lt n limit
is_within limit (negsuc n) = nat_lt n limit

abbrev pub truth_made : ℤ → Option Value
truth_made (pos n) = if nat_lt n 1 then Some (values.Bool false)
    else (if nat_lt n 2 then Some (values.Bool true) else None)
truth_made (negsuc n) = None

-- the REAL with a pattern
abbrev pub real_made : ℤ → Option Value
real_made (pos n) = option_map values.Real (with_pattern n)
real_made (negsuc n) = None

-- the bit string of a pattern below a limit
abbrev pub bits_made : ℕ → (ℕ → Value) → ℤ → Option Value
bits_made limit bits (pos n) = if nat_lt n limit then Some (bits n) else None
bits_made limit bits (negsuc n) = None

-- the value of a type with a number, where it fits
abbrev pub typed_value : Ty → ℤ → Option Value
typed_value types.Bool z = truth_made z
typed_value types.Int z = if is_within (2 ^ 15) z then Some (values.Int z) else None
typed_value types.Dint z = if is_within (2 ^ 31) z then Some (values.Dint z) else None
typed_value types.Time z = if is_within (2 ^ 31) z then Some (values.Time z) else None
typed_value types.Lint z = if is_within (2 ^ 63) z then Some (values.Lint z) else None
typed_value types.Real z = real_made z
typed_value types.Word z = bits_made (2 ^ 16) values.Word z
typed_value types.Dword z = bits_made (2 ^ 32) values.Dword z

-- a bit string, which is of one bit, of 16 or of 32 (2.3.2, ANY_BIT)
abbrev pub is_bit_string : Ty → Bool
is_bit_string types.Bool = true
is_bit_string types.Word = true
is_bit_string types.Dword = true
is_bit_string t = false

-- the value that a bare number is where a type is asked for; a REAL is written with a point
abbrev pub bare_value : Ty → ℤ → Option Value
bare_value types.Real z = None
bare_value t z = typed_value t z
