-- Words as bit strings, and double words: two words that are one value of 32 bits, the high one first. A DINT and a TIME
-- are its two's complement, a REAL is its pattern in binary32 (IEEE 754-2019, 3.4), a DWORD the pattern itself.
use Rattle.std.specs.Prelude.{ℕ, ◌+◌, ◌*◌, ◌^◌, ◌/◌, ◌%◌, ℤ, Option, Some, None, unwrap_or}
use Rattle.std.specs.Int.{w16, w32, cast_signed, cast_unsigned}
use Rattle.il_real.specs.Reals.{with_pattern, zero_real}
use Rattle.il_values.specs.declared.value.Ty.{Ty}
use Rattle.il_values.specs.declared.value.Ty.TheVariants as types
use Rattle.il_values.specs.declared.value.Value.{Value}
use Rattle.il_values.specs.declared.value.Value.TheVariants as values
use Rattle.il_model.specs.declared.program.DoubleType.{DoubleType}
use Rattle.il_model.specs.declared.program.DoubleType.TheVariants as doubles

abbrev pub double_type : DoubleType → Ty
double_type doubles.Dint = types.Dint
double_type doubles.Time = types.Time
double_type doubles.Real = types.Real
double_type doubles.Dword = types.Dword

-- the pattern that two words are
abbrev pub pattern_of_words : ℤ → ℤ → ℕ
pattern_of_words high low = cast_unsigned w16 high * 2 ^ 16 + cast_unsigned w16 low

-- The value that a pattern is. One that is no REAL, which is that of an infinity, of no number, or of -0, is read as
-- 0.0, so that no input stops a program.
abbrev pub value_of_pattern : DoubleType → ℕ → Value
value_of_pattern doubles.Dint pattern = values.Dint (cast_signed w32 pattern)
value_of_pattern doubles.Time pattern = values.Time (cast_signed w32 pattern)
value_of_pattern doubles.Real pattern = values.Real (unwrap_or (with_pattern pattern) zero_real)
value_of_pattern doubles.Dword pattern = values.Dword (pattern % 2 ^ 32)

-- what is read of two words
abbrev pub double_value : DoubleType → ℤ → ℤ → Value
double_value t high low = value_of_pattern t (pattern_of_words high low)

-- the pattern of a value of the type
abbrev pub double_pattern : DoubleType → Value → Option ℕ
double_pattern doubles.Dint (values.Dint z) = Some (cast_unsigned w32 z)
double_pattern doubles.Time (values.Time z) = Some (cast_unsigned w32 z)
double_pattern doubles.Real (values.Real r) = Some r.pattern
double_pattern doubles.Dword (values.Dword n) = Some n
double_pattern t v = None

-- the words of a pattern
abbrev pub high_word : ℕ → ℤ
high_word pattern = cast_signed w16 (pattern / 2 ^ 16)

abbrev pub low_word : ℕ → ℤ
low_word pattern = cast_signed w16 (pattern % 2 ^ 16)

-- what is read of one word that is a WORD
abbrev pub word_value : ℤ → Value
word_value z = values.Word (cast_unsigned w16 z % 2 ^ 16)
