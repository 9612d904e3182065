-- What the calls of the program give: the image of a text, a listing, a change, and answers to commands.
use Rattle.std.specs.Prelude.{◌≡◌, ◌<◌, ◌⊎◌, ℕ, List, ◌∷◌, [], ◌++◌, length, take, codes, Option, Bool, false}
use Rattle.std.specs.List.{list_any}
use Rattle.std.specs.Fmt.{decimal}
use Rattle.std.specs.Io.KnownBytes.{Appends}
use Rattle.io_model.specs.Streams.{Failed}
use Rattle.io_model.specs.declared.counted.CountedWrite.{Ghosts as CountedWriter}
use Rattle.il_model.specs.declared.command.Answer.{Answer}
use Rattle.il_model.specs.declared.limits.TheConstants.{MOST_IMAGE_BYTES}
use Rattle.il_model.specs.Program.{Program}
use Rattle.il_model.specs.Typing.{IsTyped}
use Rattle.il_model.specs.Marks.{words_in}
use Rattle.il_model.specs.Image.{spelling}
use Rattle.il_model.specs.Fits.{IsImage}
use Rattle.il_loader.specs.Images.{Reading, ReadsImages}
use Rattle.il_lister.specs.Listing.{listing}
use Rattle.il_text.specs.declared.fault.Fault.{Fault}
use Rattle.il_text.specs.declared.fault.Fault.TheVariants as faults
use Rattle.il_text.specs.Meaning.{IsTypedProgramOfText, IsImageOfText, IsTextFault, IsGoodText}
use Rattle.il_model.specs.Answers.{is_change}
use Rattle.il_places.specs.Places.{PlacesText, AreKnownPlaces}
use Rattle.il_places.specs.Located.{placed_lines}
use Rattle.ctl_debugger.specs.Owned.{cold_owned}
use Rattle.plc_json.specs.declared.command.JsonFault.{JsonFault}
use Rattle.plc_json.specs.declared.command.JsonFault.TheVariants as json
use Rattle.plc_json.specs.declared.command.NamedCommand.{NamedCommand}
use Rattle.plc_json.specs.declared.command.NamedCommand.TheVariants.{Plain}
use Rattle.plc_json.specs.Commands.{HasNoCommands}
use Rattle.plc_json.specs.Asking.{IsChange}
use Rattle.plc_names.specs.Named.{named_answers}

-- ---- images and listings

-- the line that tells how many words the program's image has, those of arguments too
abbrev pub words_line : Program → List ℕ
words_line Q = (codes "words " ++ decimal (words_in Q.code)) ++ codes "\n"

-- the image of the program that the text says was written, and on another writer that line
pub record IsAssembled (text : List ℕ) (image image_after out out_after : Option (List ℕ)) : Type 0 where
  pub program : Program
  pub is : IsTypedProgramOfText text program
  pub has_image : IsImage program
  pub image_written : Appends image image_after (spelling program)
  pub line_written : Appends out out_after (words_line program)

-- a prefix of the text was written, and the writer failed in the call
pub record IsCutOff {W : Type 0} (w : CountedWriter W) (text : List ℕ) (old new : W) : Type 0 where
  pub written : (n : ℕ) × Appends (w.held old) (w.held new) (take n text)
  pub device : Failed (w.faults old) (w.faults new)

-- The image of the program that the text says was cut off, and no line was written; or the whole image was written, and
-- the line cut off.
pub record IsAssemblyCutShort {V W : Type 0} (v : CountedWriter V) (w : CountedWriter W) (text : List ℕ)
    (image image_after : V) (out out_after : W) : Type 0 where
  pub program : Program
  pub is : IsTypedProgramOfText text program
  pub written : (IsCutOff v (spelling program) image image_after × (out_after ≡ out))
      ⊎ (Appends (v.held image) (v.held image_after) (spelling program) × IsCutOff w (words_line program) out out_after)

-- the listing of the image that the bytes are was written
pub record IsListed (bytes : List ℕ) (old new : Option (List ℕ)) : Type 0 where
  pub program : Program
  pub image : IsImage program
  pub spelled : bytes ≡ spelling program
  pub written : Appends old new (listing program)

-- the writer failed in the call, behind a prefix of the listing of the image that the bytes are
pub record IsCutShort {W : Type 0} (w : CountedWriter W) (bytes : List ℕ) (old new : W) : Type 0 where
  pub program : Program
  pub image : IsImage program
  pub spelled : bytes ≡ spelling program
  pub cut : IsCutOff w (listing program) old new

-- ---- changes

-- the line is the command that goes on with the program that the text says, by its image
pub record IsChangeTo (text line : List ℕ) : Type 0 where
  pub image : List ℕ
  pub is : IsImageOfText text image
  pub changes : IsChange image line

-- the lines are that command, and nothing else
abbrev pub IsChangeAlone : List ℕ → List (List ℕ) → Type 0
IsChangeAlone text lines = (line : List ℕ) × (lines ≡ line ∷ []) × IsChangeTo text line

-- the text's image is longer than that of a change may be
pub record IsTooLong (text : List ℕ) : Type 0 where
  pub image : List ℕ
  pub is : IsImageOfText text image
  pub long : MOST_IMAGE_BYTES < length image

-- what is told of a text that gives no change: its first fault; or its image is too long
abbrev pub IsFaultOfChange : List ℕ → Fault → Type 0
IsFaultOfChange text told = IsTextFault text told ⊎ ((told ≡ faults.Commands) × IsTooLong text)

-- ---- answers to commands

-- what is answered is what a controller of the text's typed program answers, each scan within the budget; the bytes of
-- a change are read as images are
pub record IsAnswered (text : List ℕ) (budget : ℕ) (commands : List NamedCommand) (answers : List Answer) : Type 0 where
  pub program : Program
  pub is : IsTypedProgramOfText text program
  pub typed : IsTyped program
  pub reading : Reading
  pub reads : ReadsImages reading
  pub answers_are : answers ≡ named_answers reading (cold_owned program budget) commands

-- another program goes on by the command
abbrev pub changes : NamedCommand → Bool
changes (Plain command) = is_change command
changes _ = false

-- the places that are told beside the answers: of a text of units, unless a command changes its program
abbrev pub AreToldPlaces : List ℕ → List NamedCommand → PlacesText → Type 0
AreToldPlaces text commands places = AreKnownPlaces text (list_any changes commands) places

-- The answers of the text to the commands were written, a line each, with the places of their positions where they are
-- told. For a text without units these are `lines_of` the answers (the law `texts_without_units_tell_no_places` of
-- il_places).
pub record IsRun (text : List ℕ) (budget : ℕ) (commands : List NamedCommand) (old new : Option (List ℕ)) : Type 0 where
  pub answers : List Answer
  pub are : IsAnswered text budget commands answers
  pub places : PlacesText
  pub told : AreToldPlaces text commands places
  pub written : Appends old new (placed_lines places answers)

-- a prefix of the lines of the answers was written, before the writer failed in the call or memory ran out
pub record IsRunCutShort {W : Type 0} (w : CountedWriter W) (text : List ℕ) (budget : ℕ)
    (commands : List NamedCommand) (old new : W) : Type 0 where
  pub answers : List Answer
  pub are : IsAnswered text budget commands answers
  pub places : PlacesText
  pub told : AreToldPlaces text commands places
  pub written : (n : ℕ) × Appends (w.held old) (w.held new) (take n (placed_lines places answers))

-- the fault of a text that gives no commands
abbrev pub fault_of : JsonFault → Fault
fault_of json.Shape = faults.Commands
fault_of json.Memory = faults.Memory

-- What is told of a run that is refused: the first fault of the text; or the text is good, and the bytes of the file
-- are no list of commands.
abbrev pub IsFaultOfRun : List ℕ → List ℕ → Fault → Type 0
IsFaultOfRun text file fault =
    IsTextFault text fault ⊎ ((fault ≡ faults.Commands) × HasNoCommands file × IsGoodText text)
