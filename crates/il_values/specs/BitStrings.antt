-- Bit strings, WORD and DWORD, which are numbers of 16 and of 32 bits: how they are shifted (IEC 61131-3:2003, 2.5.1.5.3)
-- and written.
use Rattle.std.specs.Prelude.{ℕ, ◌+◌, ◌*◌, ◌/◌, ◌%◌, ◌^◌, true, List, [], ◌∷◌, ◌++◌, map}
use Rattle.std.specs.Fmt.{digit_glyph}
use Rattle.std.specs.Int.{Width, bit_not, rotate_left, rotate_right}
use Rattle.il_values.specs.declared.shift.Shift.{Shift}
use Rattle.il_values.specs.declared.shift.Shift.TheVariants as shifts

-- in the order of their codes, from 64
abbrev pub shift_list : List Shift
shift_list = shifts.Left ∷ shifts.Right ∷ shifts.RotateLeft ∷ shifts.RotateRight ∷ []

abbrev pub shift_code : Shift → ℕ
shift_code shifts.Left = 64
shift_code shifts.Right = 65
shift_code shifts.RotateLeft = 66
shift_code shifts.RotateRight = 67

-- all bits of a width
abbrev pub greatest : Width → ℕ
greatest w = bit_not w 0

-- A bit string of a width, by so many places: a shift fills with 0, so one by the width or more gives 0; a rotation by
-- the width gives the same again.
abbrev pub shifted : Shift → Width → ℕ → ℕ → ℕ
shifted shifts.Left w n k = n * 2 ^ k % (greatest w + 1)
shifted shifts.Right w n k = n / 2 ^ k
shifted shifts.RotateLeft w n k = rotate_left w n k
shifted shifts.RotateRight w n k = rotate_right w n k

-- ---- in hexadecimal digits

-- a WORD as four of them
abbrev pub hex_word : ℕ → List ℕ
hex_word n = map (digit_glyph true) (n / 4096 % 16 ∷ n / 256 % 16 ∷ n / 16 % 16 ∷ n % 16 ∷ [])

-- a DWORD as eight
abbrev pub hex_double : ℕ → List ℕ
hex_double n = hex_word (n / 2 ^ 16) ++ hex_word (n % 2 ^ 16)
