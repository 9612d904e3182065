-- The fields of messages: the one spelling of values, cells, commands and answers. All numbers are big-endian.
use Rattle.std.specs.Prelude.{FitsSigned, ◌≡◌, ℕ, zero, suc, ◌+◌, ◌*◌, ◌^◌, ◌<◌, ◌≤◌, Bool, true, false, ℤ, List, []}
use Rattle.std.specs.Prelude.{◌∷◌, ◌++◌, length, take, drop, Some, if◌then◌else◌}
use Rattle.std.specs.List.{flat_map, AllByRecursion}
use Rattle.std.specs.Int.{Width, w8, w16, w32, w64, to_be_bytes, cast_unsigned}
use Rattle.il_model.specs.declared.limits.TheConstants.{BITS, WORDS, MOST_IMAGE_BYTES}
use Rattle.il_model.specs.Limits.{is_short_image}
use Rattle.il_values.specs.declared.value.Ty.{Ty}
use Rattle.il_values.specs.declared.value.Ty.TheVariants as types
use Rattle.il_values.specs.declared.value.Value.{Value}
use Rattle.il_model.specs.declared.cells.Cells.{Cells}
use Rattle.il_model.specs.declared.command.Command.{Command}
use Rattle.il_model.specs.declared.command.Command.TheVariants as commands
use Rattle.il_model.specs.declared.command.Answer.{Answer}
use Rattle.il_model.specs.declared.command.Answer.TheVariants as answers
use Rattle.il_values.specs.Values.{typed_value, ty_of, number_of}
use Rattle.il_model.specs.Image.{type_code}
use Rattle.il_model.specs.Answers.{refusal_number}
use Rattle.il_values.specs.Stops.{stop_number}
use Rattle.il_model.specs.Locations.{safe_image}

-- how many there are, in a number of that width, and each
abbrev pub listed : {X : Type 0} → Width → (X → List ℕ) → List X → List ℕ
listed w text xs = to_be_bytes w (length xs) ++ flat_map text xs

-- bytes behind their count, in a number of that width
abbrev pub counted : Width → List ℕ → List ℕ
counted w bytes = to_be_bytes w (length bytes) ++ bytes

-- ---- values

-- the number of a LINT, a REAL or a bit string has 64 bits, that of any other type 32
abbrev pub type_width : Ty → Width
type_width types.Lint = w64
type_width types.Real = w64
type_width types.Word = w64
type_width types.Dword = w64
type_width _ = w32

abbrev pub number_bytes : Ty → ℤ → List ℕ
number_bytes type z = to_be_bytes (type_width type) (cast_unsigned (type_width type) z)

-- the code of its type, then its number
abbrev pub value_bytes : Value → List ℕ
value_bytes v = to_be_bytes w8 (type_code (ty_of v)) ++ number_bytes (ty_of v) (number_of v)

-- ---- cells

abbrev pub bit_number : Bool → ℕ
bit_number true = 1
bit_number false = 0

-- a byte of these bits, the lowest first
abbrev pub byte_of : List Bool → ℕ
byte_of [] = 0
byte_of (b ∷ bits) = bit_number b + 2 * byte_of bits

-- so many bytes, of eight bits each
unfoldable pub packed : ℕ → List Bool → List ℕ
packed zero bits = []
packed (suc n) bits = byte_of (take 8 bits) ∷ packed n (drop 8 bits)

abbrev pub word_bytes : ℤ → List ℕ
word_bytes z = to_be_bytes w16 (cast_unsigned w16 z)

-- 64 bytes of bits, 64 words
abbrev pub cells_bytes : Cells → List ℕ
cells_bytes cells = packed 64 cells.bits ++ flat_map word_bytes cells.words

-- ---- commands and answers: a tag, then the fields

abbrev pub command_tag : Command → ℕ
command_tag (commands.Scan inputs moment) = 0
command_tag (commands.SetBreak position) = 1
command_tag (commands.ClearBreak position) = 2
command_tag commands.Step = 3
command_tag commands.Continue = 4
command_tag (commands.Force slot value) = 5
command_tag (commands.Unforce slot) = 6
command_tag (commands.ReadVar slot) = 7
command_tag commands.ReadCr = 8
command_tag commands.Reset = 9
command_tag (commands.Change image) = if is_short_image image then 10 else 12
command_tag commands.Warm = 11

abbrev pub command_fields : Command → List ℕ
command_fields (commands.Scan inputs moment) = cells_bytes inputs.cells ++ to_be_bytes w64 moment
command_fields (commands.SetBreak position) = to_be_bytes w16 position
command_fields (commands.ClearBreak position) = to_be_bytes w16 position
command_fields commands.Step = []
command_fields commands.Continue = []
command_fields (commands.Force slot value) = to_be_bytes w16 slot.0 ++ value_bytes value
command_fields (commands.Unforce slot) = to_be_bytes w16 slot.0
command_fields (commands.ReadVar slot) = to_be_bytes w16 slot.0
command_fields commands.ReadCr = []
command_fields commands.Reset = []
command_fields (commands.Change image) =
    if is_short_image image then counted w16 image else counted w32 image
command_fields commands.Warm = []

abbrev pub command_bytes : Command → List ℕ
command_bytes command = to_be_bytes w8 (command_tag command) ++ command_fields command

abbrev pub answer_tag : Answer → ℕ
answer_tag (answers.Outputs count image) = 0
answer_tag (answers.Held position) = 1
answer_tag (answers.Stopped stop position image) = 2
answer_tag (answers.Value value) = 3
answer_tag answers.Done = 4
answer_tag (answers.Refused refusal) = 5

-- a stopped scan releases the safe image, which isn't spelled
abbrev pub answer_fields : Answer → List ℕ
answer_fields (answers.Outputs count image) = to_be_bytes w64 count ++ cells_bytes image.cells
answer_fields (answers.Held position) = to_be_bytes w16 position
answer_fields (answers.Stopped stop position image) = to_be_bytes w8 (stop_number stop) ++ to_be_bytes w16 position
answer_fields (answers.Value value) = value_bytes value
answer_fields answers.Done = []
answer_fields (answers.Refused refusal) = to_be_bytes w8 (refusal_number refusal)

abbrev pub answer_bytes : Answer → List ℕ
answer_bytes answer = to_be_bytes w8 (answer_tag answer) ++ answer_fields answer

-- ---- which answers have a spelling: the image of a stopped scan isn't spelled

abbrev pub IsSafe : Answer → Type 0
IsSafe (answers.Stopped stop position image) = image ≡ safe_image
IsSafe _ = Unit {0}

-- ---- each number is within its field, as those of a message of the code are

abbrev pub FitsValue : Value → Type 0
FitsValue v = typed_value (ty_of v) (number_of v) ≡ Some v

pub record FitsCells (cells : Cells) : Type 0 where
  pub bits : length cells.bits ≡ BITS
  pub words : length cells.words ≡ WORDS
  pub each : AllByRecursion (FitsSigned w16) cells.words

abbrev pub FitsCommand : Command → Type 0
FitsCommand (commands.Scan inputs moment) = FitsCells inputs.cells × (moment < 2 ^ 64)
FitsCommand (commands.SetBreak position) = position < 2 ^ 16
FitsCommand (commands.ClearBreak position) = position < 2 ^ 16
FitsCommand (commands.Force slot value) = (slot.0 < 2 ^ 16) × FitsValue value
FitsCommand (commands.Unforce slot) = slot.0 < 2 ^ 16
FitsCommand (commands.ReadVar slot) = slot.0 < 2 ^ 16
FitsCommand (commands.Change image) = length image ≤ MOST_IMAGE_BYTES
FitsCommand _ = Unit {0}

abbrev pub FitsAnswer : Answer → Type 0
FitsAnswer (answers.Outputs count image) = (count < 2 ^ 64) × FitsCells image.cells
FitsAnswer (answers.Held position) = position < 2 ^ 16
FitsAnswer (answers.Stopped stop position image) = position < 2 ^ 16
FitsAnswer (answers.Value value) = FitsValue value
FitsAnswer _ = Unit {0}
