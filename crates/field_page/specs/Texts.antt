-- The parts of texts of what shows.
use Rattle.std.specs.Prelude.{ℕ, ◌+◌, ◌/◌, ◌%◌, List, [], ◌∷◌, ◌++◌, codes, decimal, if◌then◌else◌, nat_lt, ◌==◌}
use Rattle.plc_figures.specs.Texts.{code_text}
use Rattle.field_page.specs.declared.reading.State.{State}
use Rattle.field_page.specs.declared.reading.State.TheVariants as states
use Rattle.field_page.specs.declared.text.Within.{Within}
use Rattle.field_page.specs.declared.text.Within.TheVariants as places

abbrev pub state_name : State → List ℕ
state_name states.Unknown = codes "unknown"
state_name states.Answers = codes "answers"
state_name states.Lost = codes "lost"
state_name states.Left = codes "not asked"

-- one byte of a string of JSON
abbrev pub json_byte : ℕ → List ℕ
json_byte byte = if byte == 34 then codes "\\\""
    else if byte == 92 then codes "\\\\"
    else if nat_lt byte 32 then code_text byte
    else byte ∷ []

-- one byte of the value of a label
abbrev pub label_byte : ℕ → List ℕ
label_byte byte = if byte == 34 then codes "\\\""
    else if byte == 92 then codes "\\\\"
    else if byte == 10 then codes "\\n"
    else byte ∷ []

-- one byte of a page: < and &
abbrev pub html_byte : ℕ → List ℕ
html_byte byte = if byte == 60 then codes "&lt;"
    else if byte == 38 then codes "&amp;"
    else byte ∷ []

abbrev pub escaped : Within → ℕ → List ℕ
escaped places.Json byte = json_byte byte
escaped places.Label byte = label_byte byte
escaped places.Html byte = html_byte byte

-- one digit of a number: that of so many ones
abbrev pub digit_of : ℕ → ℕ → ℕ
digit_of number ones = 48 + number / ones % 10

-- the three last digits of a number
abbrev pub digits_three : ℕ → List ℕ
digits_three number = digit_of number 100 ∷ digit_of number 10 ∷ digit_of number 1 ∷ []

-- milliseconds, as seconds with three digits behind the point
abbrev pub millis_text : ℕ → List ℕ
millis_text millis = decimal (millis / 1000) ++ (codes "." ++ digits_three (millis % 1000))
