-- Texts that grow: numbers and times as they are written, and the parts of a JSON text (RFC 8259).
use Rattle.std.specs.Prelude.{◌≡◌, ℕ, ◌+◌, ◌/◌, ◌%◌, List, [], ◌∷◌, ◌++◌, codes, decimal, zero, suc, ◌-◌, Bool, true}
use Rattle.std.specs.Prelude.{false, ◌&&◌, if◌then◌else◌, nat_le, nat_lt, ◌==◌}
use Rattle.std.specs.List.{flat_map}
use Rattle.std.specs.Fmt.{signed_decimal}
use Rattle.il_real.specs.Texts.{real_text}
use Rattle.il_values.specs.BitStrings.{hex_word, hex_double}
use Rattle.il_values.specs.declared.value.Value.{Value}
use Rattle.il_values.specs.declared.value.Value.TheVariants as values

-- a text was added behind what there was, and nothing else was changed
pub record IsAdded (old : List ℕ) (text : List ℕ) (new : List ℕ) : Type 0 where
  pub is : new ≡ old ++ text

-- one digit of a number: that of so many ones
abbrev pub digit : ℕ → ℕ → ℕ
digit number ones = 48 + number / ones % 10

-- the six last digits of a number
abbrev pub digits_six : ℕ → List ℕ
digits_six number =
    digit number 100_000 ∷ digit number 10_000 ∷ digit number 1_000 ∷ digit number 100 ∷ digit number 10
    ∷ digit number 1 ∷ []

-- microseconds, as seconds with six digits behind the point
abbrev pub seconds_text : ℕ → List ℕ
seconds_text microseconds =
    decimal (microseconds / 1_000_000) ++ (codes "." ++ digits_six (microseconds % 1_000_000))

-- a value: 0 and 1 for a bit, a whole number, a REAL, or a bit string in hexadecimal digits
abbrev pub value_text : Value → List ℕ
value_text (values.Bool b) = if b then codes "1" else codes "0"
value_text (values.Int z) = signed_decimal z
value_text (values.Dint z) = signed_decimal z
value_text (values.Time z) = signed_decimal z
value_text (values.Lint z) = signed_decimal z
value_text (values.Real r) = real_text r
value_text (values.Word n) = codes "16#" ++ hex_word n
value_text (values.Dword n) = codes "16#" ++ hex_double n

-- ---- JSON

abbrev pub hex_digit : ℕ → ℕ
hex_digit number = if nat_lt number 10 then 48 + number else 97 + (number - 10)

-- a byte as a code, as \u001f
abbrev pub code_text : ℕ → List ℕ
code_text byte = codes "\\u00" ++ (hex_digit (byte / 16) ∷ hex_digit (byte % 16) ∷ [])

-- one character of a string
abbrev pub escaped : ℕ → List ℕ
escaped byte = if byte == 34 then codes "\\\""
    else if byte == 92 then codes "\\\\"
    else if nat_le 32 byte && nat_lt byte 127 then byte ∷ []
    else code_text byte

abbrev pub string_json : List ℕ → List ℕ
string_json text = codes "\"" ++ (flat_map escaped text ++ codes "\"")

abbrev pub flag_json : Bool → List ℕ
flag_json true = codes "true"
flag_json false = codes "false"

-- what stands before an item: nothing before the first
abbrev pub comma : ℕ → List ℕ
comma zero = []
comma (suc number) = codes ","
