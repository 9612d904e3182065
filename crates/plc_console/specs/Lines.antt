-- The lines of an operator's console: which command each asks for, and what it comes to.
use Rattle.std.specs.Prelude.{◌≡◌, ◌≤◌, ◌<◌, ◌+◌, ◌⊎◌, ◌&&◌, not, ℕ, nat_eq, nat_le, if◌then◌else◌, Bool, List, [], ◌∷◌, length, codes, true, Option, Some, None}
use Rattle.std.specs.List.{AllByRecursion, list_any, starts_with}
use Rattle.il_model.specs.declared.command.Answer.{Answer}
use Rattle.il_model.specs.declared.command.Command.{Command}
use Rattle.il_model.specs.declared.command.Command.TheVariants.{Scan}
use Rattle.il_model.specs.Program.{Program}
use Rattle.plc_json.specs.declared.command.NamedCommand.{NamedCommand}
use Rattle.plc_json.specs.declared.command.NamedCommand.TheVariants as named
use Rattle.plc_json.specs.declared.question.Asked.TheVariants as asked
use Rattle.plc_json.specs.declared.question.Question.{Question}
use Rattle.plc_json.specs.Asking.{HasAsked, HasNothing}
use Rattle.il_text.specs.Lines.{line_text}
use Rattle.plc_names.specs.Named.{meant}
use Rattle.il_text.specs.Telling.{fault_line}
use Rattle.il_text.specs.declared.fault.Fault.TheVariants.{Commands}
use Rattle.plc_console.specs.declared.line.Wish.{Wish}
use Rattle.plc_console.specs.declared.line.Wish.TheVariants as wishes
use Rattle.plc_console.specs.Web.{is_of_http}

-- LF, which ends a line
abbrev pub line_end : ℕ
line_end = 10

-- the line of a change to a long image, as `plc ask` writes it; it has no comma, so one text at most is read of it
abbrev pub is_long_change : List ℕ → Bool
is_long_change line = starts_with nat_eq line (codes "{\"long_change\":\"") && not (list_any (λ byte. nat_eq 44 byte) line)

-- so many bytes a line is kept with, without its end
abbrev pub most_kept : ℕ
most_kept = 2_105_344

-- so many bytes a line may have
abbrev pub longest_line : List ℕ → ℕ
longest_line line = if is_long_change line then most_kept else 131_072

-- no line ends among these bytes
abbrev pub HasNoEnd : List ℕ → Type 0
HasNoEnd bytes = AllByRecursion (λ byte. byte ≡ line_end → ⊥) bytes

-- what is kept of a line: its bytes, or that there are too many
abbrev pub kept : List ℕ → Option (List ℕ)
kept line = if nat_le (length line) most_kept then Some line else None

-- scans are the driver's alone
abbrev pub IsScan : NamedCommand → Type 0
IsScan (named.Plain (Scan inputs moment)) = Unit {0}
IsScan _ = ⊥

-- The line is this command, whose names were looked up in the program.
pub record AsksFor (Q : Program) (line : List ℕ) (command : Command) : Type 0 where
  pub named : NamedCommand
  pub short : length line ≤ longest_line line
  pub read : HasAsked line (asked.Command named)
  pub no_scan : IsScan named → ⊥
  pub is : command ≡ meant Q named

-- the line is this question
pub record AsksAbout (line : List ℕ) (question : Question) : Type 0 where
  pub short : length line ≤ longest_line line
  pub read : HasAsked line (asked.Question question)

-- the line is a scan
pub record AsksForScan (line : List ℕ) : Type 0 where
  pub named : NamedCommand
  pub read : HasAsked line (asked.Command named)
  pub is_scan : IsScan named

-- the line is too long, neither a command nor a question, or a scan
abbrev pub AsksForNothing : List ℕ → Type 0
AsksForNothing line = (longest_line line < length line) ⊎ (HasNothing line ⊎ AsksForScan line)

-- The line is one of HTTP: no operator sends it, but a browser does, whatever port it's led to.
abbrev pub IsOfHttp : List ℕ → Type 0
IsOfHttp line = (length line ≤ longest_line line) × (is_of_http line ≡ true)

-- so many lines in a row may be refused; one more ends the session
abbrev pub most_refused : ℕ
most_refused = 2

-- behind so many lines in a row that were refused, this one ends the session
abbrev pub EndsSession : ℕ → List ℕ → Type 0
EndsSession refused line = IsOfHttp line ⊎ (AsksForNothing line × (most_refused < refused + 1))

-- what a line came to: its command was submitted and answered once, by this answer; or its question, by this text; or
-- it was refused
pub data Outcome : Type 0 where
  Submitted : (command : Command) (answer : Answer) → Outcome
  Told : (question : Question) (text : List ℕ) → Outcome
  Refused : Outcome

abbrev pub IsOutcome : Program → List ℕ → Outcome → Type 0
IsOutcome Q line (Submitted command answer) = AsksFor Q line command
IsOutcome Q line (Told question text) = AsksAbout line question
IsOutcome Q line Refused = AsksForNothing line

-- what it writes
abbrev pub text_of : Outcome → List ℕ
text_of (Submitted command answer) = line_text answer
text_of (Told question text) = text
text_of Refused = fault_line Commands

-- what was submitted for it, with the answer
abbrev pub submitted_by : Outcome → List (Command × Answer)
submitted_by (Submitted command answer) = (command, answer) ∷ []
submitted_by (Told question text) = []
submitted_by Refused = []

-- how many lines in a row were refused, up to one that came to this
abbrev pub refused_behind : ℕ → Outcome → ℕ
refused_behind refused Refused = refused + 1
refused_behind refused outcome = 0

-- what a line that isn't one of HTTP asks for
abbrev pub Wants : Program → List ℕ → Wish → Type 0
Wants Q line (wishes.Submit command) = AsksFor Q line command
Wants Q line (wishes.Tell question) = AsksAbout line question
Wants Q line wishes.Refuse = AsksForNothing line
Wants Q line wishes.Leave = ⊥

-- what is known of a line before it's answered
abbrev pub IsWish : Program → List ℕ → Wish → Type 0
IsWish Q line wishes.Leave = IsOfHttp line
IsWish Q line wish = (IsOfHttp line → ⊥) × Wants Q line wish

-- what a named command is
abbrev pub IsWishOf : Program → NamedCommand → Wish → Type 0
IsWishOf Q named (wishes.Submit command) = (IsScan named → ⊥) × (command ≡ meant Q named)
IsWishOf Q named (wishes.Tell question) = ⊥
IsWishOf Q named wishes.Refuse = IsScan named
IsWishOf Q named wishes.Leave = ⊥

-- it came to what was known of it
abbrev pub Fits : Wish → Outcome → Type 0
Fits (wishes.Submit asked) (Submitted command answer) = command ≡ asked
Fits (wishes.Tell asked) (Told question text) = question ≡ asked
Fits wishes.Refuse Refused = Unit {0}
Fits _ _ = ⊥

-- how many lines in a row were refused, up to one of which this is known
abbrev pub refused_with : ℕ → Wish → ℕ
refused_with refused wishes.Refuse = refused + 1
refused_with refused wish = 0

-- a line of which this is known ends the session, behind so many in a row that were refused
abbrev pub EndsAt : ℕ → Wish → Type 0
EndsAt refused wishes.Leave = Unit {0}
EndsAt refused wishes.Refuse = most_refused < refused + 1
EndsAt refused wish = ⊥

-- It doesn't: this many are refused in a row with it.
abbrev pub StaysAt : ℕ → Wish → ℕ → Type 0
StaysAt refused wishes.Leave refused' = ⊥
StaysAt refused wish refused' = (refused' ≡ refused_with refused wish) × (refused' ≤ most_refused)
