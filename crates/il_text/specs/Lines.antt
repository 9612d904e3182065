-- The lines that answers print.
use Rattle.std.specs.Prelude.{ℕ, ◌/◌, ◌%◌, ℤ, Bool, true, false, List, [], ◌++◌, if◌then◌else◌, codes}
use Rattle.std.specs.List.{flat_map, enumerate_from}
use Rattle.std.specs.Fmt.{decimal, signed_decimal}
use Rattle.il_real.specs.Texts.{real_text}
use Rattle.il_model.specs.Answers.{refusal_number}
use Rattle.il_values.specs.Operators.{is_zero}
use Rattle.il_values.specs.BitStrings.{hex_word, hex_double}
use Rattle.il_model.specs.declared.command.Answer.{Answer}
use Rattle.il_model.specs.declared.command.Answer.TheVariants as answers
use Rattle.il_values.specs.declared.value.Stop.{Stop}
use Rattle.il_values.specs.declared.value.Stop.TheVariants as stops
use Rattle.il_values.specs.declared.value.Value.{Value}
use Rattle.il_values.specs.declared.value.Value.TheVariants as values

-- an output bit with its number where it is TRUE, by its byte and its place there: QX0.3
abbrev pub bit_text : ℕ × Bool → List ℕ
bit_text (number, true) = codes " QX" ++ (decimal (number / 8) ++ (codes "." ++ decimal (number % 8)))
bit_text (number, false) = []

-- an output word with its number where it isn't 0: QW7=-5
abbrev pub word_text : ℕ × ℤ → List ℕ
word_text (number, word) =
    if is_zero word then [] else codes " QW" ++ (decimal number ++ (codes "=" ++ signed_decimal word))

abbrev pub bits_text : List Bool → List ℕ
bits_text bits = flat_map bit_text (enumerate_from 0 bits)

abbrev pub words_text : List ℤ → List ℕ
words_text words = flat_map word_text (enumerate_from 0 words)

abbrev pub stop_name : Stop → List ℕ
stop_name stops.Overflow = codes "overflow"
stop_name stops.ZeroDivisor = codes "zerodivisor"
stop_name stops.Budget = codes "budget"

abbrev pub value_text : Value → List ℕ
value_text (values.Bool true) = codes "value TRUE"
value_text (values.Bool false) = codes "value FALSE"
value_text (values.Int z) = codes "value INT#" ++ signed_decimal z
value_text (values.Dint z) = codes "value DINT#" ++ signed_decimal z
value_text (values.Lint z) = codes "value LINT#" ++ signed_decimal z
value_text (values.Time z) = codes "value T#" ++ (signed_decimal z ++ codes "ms")
value_text (values.Real r) = codes "value REAL#" ++ real_text r
value_text (values.Word n) = codes "value WORD#16#" ++ hex_word n
value_text (values.Dword n) = codes "value DWORD#16#" ++ hex_double n

-- an answer, without the end of its line
abbrev pub answer_text : Answer → List ℕ
answer_text (answers.Outputs count image) =
    codes "outputs " ++ (decimal count ++ (bits_text image.cells.bits ++ words_text image.cells.words))
answer_text (answers.Held position) = codes "held " ++ decimal position
answer_text (answers.Stopped stop position image) =
    codes "stopped " ++ (stop_name stop ++ (codes " " ++ decimal position))
answer_text (answers.Value value) = value_text value
answer_text answers.Done = codes "done"
answer_text (answers.Refused refusal) = codes "refused " ++ decimal (refusal_number refusal)

abbrev pub line_text : Answer → List ℕ
line_text answer = answer_text answer ++ codes "\n"

-- a line for each answer
abbrev pub lines_of : List Answer → List ℕ
lines_of answers = flat_map line_text answers
