-- What is told of positions and places: the lines of a program's positions, and the place that is told of a position in
-- an answer.
use Rattle.std.specs.Prelude.{◌≡◌, ℕ, suc, ◌==◌, List, [], ◌∷◌, ◌++◌, codes, Option, Some, None, Bool, true, ◌&&◌}
use Rattle.std.specs.Prelude.{if◌then◌else◌, slice_get}
use Rattle.std.specs.List.{flat_map}
use Rattle.std.specs.Fmt.{decimal}
use Rattle.std.specs.Io.KnownBytes.{Appends}
use Rattle.io_model.specs.declared.counted.CountedWrite.{Ghosts as CountedWriter}
use Rattle.il_model.specs.declared.command.Answer.{Answer}
use Rattle.il_model.specs.declared.command.Answer.TheVariants as answers
use Rattle.il_model.specs.Program.{Program}
use Rattle.il_model.specs.Fits.{IsImage}
use Rattle.il_model.specs.Image.{spelling}
use Rattle.il_reader.specs.Texts.{place_at}
use Rattle.il_reader.specs.declared.place.Place.{Place}
use Rattle.il_text.specs.declared.fault.Fault.{Fault}
use Rattle.il_text.specs.Lines.{answer_text}
use Rattle.il_text.specs.Meaning.{IsTextFault, OrMemory}
use Rattle.il_text.specs.Telling.{status_of, fault_line, WentOut, numbered, pair_text}
use Rattle.il_places.specs.declared.asked.Asked.{Asked}
use Rattle.il_places.specs.declared.asked.Asked.TheVariants.{All, Line, At, Position}
use Rattle.il_places.specs.declared.locating.NoLines.{NoLines}
use Rattle.il_places.specs.declared.locating.NoLines.TheVariants.{Refused, Image, Nothing}
use Rattle.il_places.specs.declared.origins.Origin.{Origin}
use Rattle.il_places.specs.Names.{is_none}
use Rattle.il_places.specs.Places.{PlacesText, ArePlaces}

-- ---- the lines of positions

-- 13:5
abbrev pub place_text : Place → List ℕ
place_text place = decimal place.line ++ (codes ":" ++ decimal place.column)

-- what is written behind the place of an instruction that stands in the body of an instance
abbrev pub instance_text : List ℕ → List ℕ
instance_text name = if is_none name then [] else codes " " ++ name

-- 612 13:5 M7
abbrev pub position_line : ℕ → Place → List ℕ → List ℕ
position_line n place instance =
    decimal n ++ (codes " " ++ (place_text place ++ (instance_text instance ++ codes "\n")))

abbrev pub is_asked : Asked → ℕ → Place → Bool
is_asked All n place = true
is_asked (Line line) n place = place.line == line
is_asked (At line column) n place = (place.line == line) && (place.column == column)
is_asked (Position position) n place = n == position

-- the line of a position that is asked for
abbrev pub asked_line : Asked → ℕ → Place → List ℕ → List ℕ
asked_line asked n place instance = if is_asked asked n place then position_line n place instance else []

-- a line for each position that is asked for, from the n-th on
unfoldable pub asked_lines : List ℕ → Asked → ℕ → List Origin → List ℕ
asked_lines text asked n [] = []
asked_lines text asked n (o ∷ os) =
    asked_line asked n (place_at text o.left) o.instance ++ asked_lines text asked (suc n) os

-- these are the lines of the positions that are asked for
pub record AreLocated (source : List ℕ) (asked : Asked) (lines : List ℕ) : Type 0 where
  pub places : PlacesText
  pub are : ArePlaces source places
  pub is : lines ≡ asked_lines places.text asked 0 places.origins

-- such lines were written
pub record IsWritten (source : List ℕ) (asked : Asked) (old new : Option (List ℕ)) : Type 0 where
  pub lines : List ℕ
  pub are : AreLocated source asked lines
  pub written : Appends old new lines

-- ---- where there are none

-- the bytes are an image
abbrev pub AreImage : List ℕ → Type 0
AreImage bytes = (Q : Program) × IsImage Q × (bytes ≡ spelling Q)

-- Why there are none: the text's first fault, or memory ran out; the bytes are no text, but an image; none of the
-- positions is asked for.
abbrev pub IsWhy : List ℕ → Asked → NoLines → Type 0
IsWhy source asked (Refused fault) = OrMemory (IsTextFault source) fault
IsWhy source asked Image = ((fault : Fault) × IsTextFault source fault) × AreImage source
IsWhy source asked Nothing = AreLocated source asked []

abbrev pub numbered_line : List ℕ → ℕ → List ℕ
numbered_line text number = numbered text number ++ codes "\n"

abbrev pub nothing_line : Asked → List ℕ
nothing_line All = []
nothing_line (Line line) = numbered_line (codes "plc: no instruction at ") line
nothing_line (At line column) = pair_text (codes "plc: no instruction at ") line (codes ":") column
nothing_line (Position position) = numbered_line (codes "plc: no position ") position

abbrev pub why_line : Asked → NoLines → List ℕ
why_line asked (Refused fault) = fault_line fault
why_line asked Image = codes "plc: the source is an image\n"
why_line asked Nothing = nothing_line asked

abbrev pub why_status : NoLines → ℕ
why_status (Refused fault) = status_of fault
why_status Image = 1
why_status Nothing = 1

-- why there are none was told
pub record IsRefusedBy {W : Type 0} (w : CountedWriter W) (source : List ℕ) (asked : Asked) (old new : W)
    : Type 0 where
  pub why : NoLines
  pub is : IsWhy source asked why
  pub line : WentOut w (why_line asked why) old new

-- ---- positions in answers

-- the instance and a comma; nothing in the program itself
abbrev pub standing_in : List ℕ → List ℕ
standing_in name = if is_none name then [] else name ++ codes ", "

-- the place that is told behind a position: ': M7, line 13'
abbrev pub standing_at : List ℕ → Option Origin → List ℕ
standing_at text None = []
standing_at text (Some o) =
    codes ": " ++ (standing_in o.instance ++ (codes "line " ++ decimal (place_at text o.left).line))

abbrev pub standing : PlacesText → ℕ → List ℕ
standing ps n = standing_at ps.text (slice_get ps.origins n)

abbrev pub standing_of : PlacesText → Answer → List ℕ
standing_of ps (answers.Held position) = standing ps position
standing_of ps (answers.Stopped stop position image) = standing ps position
standing_of ps answer = []

-- an answer, without the end of its line: stopped overflow 612: M7, line 13
abbrev pub placed_text : PlacesText → Answer → List ℕ
placed_text ps answer = answer_text answer ++ standing_of ps answer

abbrev pub placed_line : PlacesText → Answer → List ℕ
placed_line ps answer = placed_text ps answer ++ codes "\n"

-- a line for each answer
abbrev pub placed_lines : PlacesText → List Answer → List ℕ
placed_lines ps answers = flat_map (placed_line ps) answers
