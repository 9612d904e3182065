-- What a session of an operator's console reads, submits and writes, and what is noted of it.
use Rattle.std.specs.Prelude.{◌≡◌, ◌≤◌, ◌⊎◌, ℕ, List, [], ◌∷◌, ◌++◌, take, Option, Result, MatchResult, Some, None}
use Rattle.std.specs.List.{flat_map}
use Rattle.std.specs.Io.KnownBytes.{Appends, Consumes, IsAtEnd}
use Rattle.io_model.specs.Streams.{Failed}
use Rattle.il_model.specs.declared.command.Answer.{Answer}
use Rattle.il_model.specs.declared.command.Command.{Command}
use Rattle.il_model.specs.declared.command.Answer.TheVariants.{Refused}
use Rattle.il_model.specs.Program.{Program}
use Rattle.vr_ports.specs.Parties.{Grows}
use Rattle.plc_status.specs.declared.deed.Deed.{Deed}
use Rattle.plc_status.specs.declared.journal.Journal.{Journal}
use Rattle.plc_status.specs.declared.notice.Notice.TheVariants as notices
use Rattle.plc_status.specs.Journal.{IsPut}
use Rattle.plc_status.specs.Notices.{deed_of}
use Rattle.plc_console.specs.declared.session.SessionEnd.{SessionEnd}
use Rattle.plc_console.specs.declared.line.Wish.{Wish}
use Rattle.plc_console.specs.declared.line.Wish.TheVariants as wishes
use Rattle.plc_console.specs.declared.session.SessionEnd.TheVariants as ends
use Rattle.plc_console.specs.Mirrored.{in_force_after}
use Rattle.plc_console.specs.Lines.{line_end, HasNoEnd, IsOfHttp, EndsSession, Outcome, IsOutcome, Fits, text_of, submitted_by}
use Rattle.plc_console.specs.Lines.{most_refused, refused_behind}

-- a line, without its end, and what it came to
pub record Turn : Type 0 where
  pub line : List ℕ
  pub outcome : Outcome

abbrev pub line_of : Turn → List ℕ
line_of turn = turn.line ++ line_end ∷ []

-- A whole line behind which a session goes on, and what such a line comes to: it's none of HTTP, and with it not too
-- many in a row are refused.
pub record IsTurn (Q : Program) (refused : ℕ) (turn : Turn) : Type 0 where
  pub whole : HasNoEnd turn.line
  pub no_http : IsOfHttp turn.line → ⊥
  pub few : refused_behind refused turn.outcome ≤ most_refused
  pub comes_to : IsOutcome Q turn.line turn.outcome

-- how many lines in a row were refused after these, behind so many
abbrev pub refused_after : ℕ → List Turn → ℕ
refused_after refused [] = refused
refused_after refused (turn ∷ more) = refused_after (refused_behind refused turn.outcome) more

-- whole lines, one behind another, and what each comes to; names of each are those of the program in force then
abbrev pub AreTurns : Program → ℕ → List Turn → Type 0
AreTurns Q refused [] = Unit {0}
AreTurns Q refused (turn ∷ more) =
    IsTurn Q refused turn × AreTurns (in_force_after Q (submitted_by turn.outcome)) (refused_behind refused turn.outcome) more

abbrev pub lines_of : List Turn → List ℕ
lines_of turns = flat_map line_of turns

abbrev pub texts_of : List Turn → List ℕ
texts_of turns = flat_map (λ turn. text_of turn.outcome) turns

abbrev pub submitted_in : List Turn → List (Command × Answer)
submitted_in turns = flat_map (λ turn. submitted_by turn.outcome) turns

-- what shows of a session: the commands that were submitted, with their answers, what its writer holds, and the program
-- that names are looked up in
pub record Scene : Type 0 where
  pub answered : Option (List (Command × Answer))
  pub held : Option (List ℕ)
  pub program : Program

abbrev pub scene : Option (List (Command × Answer)) → Option (List ℕ) → Program → Scene
scene answered held program = record { answered = answered; held = held; program = program }

-- Behind what was there of a line a piece of the stream came. Each line that is whole with it had its turn: its command
-- was submitted and answered once, or it was refused, and its answer was written, in order. This is there of the next
-- line, whose names are looked up in the program in force, and so many lines in a row were refused.
pub record Serves (rest piece rest' : List ℕ) (refused refused' : ℕ) (before after : Scene) : Type 0 where
  pub turns : List Turn
  pub lines : rest ++ piece ≡ lines_of turns ++ rest'
  pub unended : HasNoEnd rest'
  pub each : AreTurns before.program refused turns
  pub counted : refused' ≡ refused_after refused turns
  pub submitted : Grows before.answered after.answered (submitted_in turns)
  pub program : after.program ≡ in_force_after before.program (submitted_in turns)
  pub written : Appends before.held after.held (texts_of turns)

-- The first lines of the stream had their turns, and a prefix of what they write went out.
pub record Breaks (rest piece : List ℕ) (refused : ℕ) (before after : Scene) : Type 0 where
  pub turns : List Turn
  pub more : List ℕ
  pub lines : rest ++ piece ≡ lines_of turns ++ more
  pub each : AreTurns before.program refused turns
  pub submitted : Grows before.answered after.answered (submitted_in turns)
  pub program : after.program ≡ in_force_after before.program (submitted_in turns)
  pub output : List ℕ
  pub unwritten : List ℕ
  pub begins : texts_of turns ≡ output ++ unwritten
  pub written : Appends before.held after.held output

-- The first lines of the stream had their turns, and the one behind them ends the session: nothing is done for it, nor
-- for what comes behind it.
pub record Dismisses (rest piece : List ℕ) (refused : ℕ) (before after : Scene) : Type 0 where
  pub turns : List Turn
  pub line : List ℕ
  pub unread : List ℕ
  pub lines : rest ++ piece ≡ lines_of turns ++ (line ++ line_end ∷ unread)
  pub each : AreTurns before.program refused turns
  pub whole : HasNoEnd line
  pub over : EndsSession (refused_after refused turns) line
  pub submitted : Grows before.answered after.answered (submitted_in turns)
  pub program : after.program ≡ in_force_after before.program (submitted_in turns)
  pub written : Appends before.held after.held (texts_of turns)

-- how a session ended over one piece, behind so many lines in a row that were refused; its reader or its writer failed
abbrev pub Stops : SessionEnd → List ℕ → List ℕ → ℕ → Type 0 → Scene → Scene → Type 0
Stops ends.Closed rest piece refused fails before after = ⊥
Stops ends.Dismissed rest piece refused fails before after = Dismisses rest piece refused before after
Stops ends.Device rest piece refused fails before after = fails × Breaks rest piece refused before after
Stops ends.Memory rest piece refused fails before after = Breaks rest piece refused before after
Stops ends.Unanswered rest piece refused fails before after = Breaks rest piece refused before after

-- how a session ended that read this input; what its reader had left then, and whether its reader or its writer failed
abbrev pub Ended : SessionEnd → List ℕ → Option (List ℕ) → Type 0 → Scene → Scene → Type 0
Ended ends.Closed input left fails before after =
    IsAtEnd left × (rest : List ℕ) × (refused : ℕ) × Serves [] input rest 0 refused before after
Ended ends.Dismissed input left fails before after = Dismisses [] input 0 before after
Ended ends.Device input left fails before after = fails × Breaks [] input 0 before after
Ended ends.Memory input left fails before after = Breaks [] input 0 before after
Ended ends.Unanswered input left fails before after = Breaks [] input 0 before after

-- what a session did, by what its reader had left before and after, and how often its reader and its writer had failed
pub record Talks (end : SessionEnd) (left left' : Option (List ℕ)) (r r' w w' : ℕ) (before after : Scene) : Type 0 where
  pub input : List ℕ
  pub read : Consumes left left' input
  pub ended : Ended end input left' (Failed r r' ⊎ Failed w w') before after

-- why a line wasn't written: the writer failed, or memory ran out
abbrev pub IsWhyUnwritten : SessionEnd → Type 0 → Type 0
IsWhyUnwritten ends.Device fails = fails
IsWhyUnwritten ends.Memory fails = Unit {0}
IsWhyUnwritten ends.Closed fails = ⊥
IsWhyUnwritten ends.Dismissed fails = ⊥
IsWhyUnwritten ends.Unanswered fails = ⊥

-- all of the text went out, or a prefix of it
abbrev pub Writes : Result (Unit {0}) SessionEnd → List ℕ → Type 0 → Option (List ℕ) → Option (List ℕ) → Type 0
Writes result text fails held held' =
    MatchResult result (λ done. Appends held held' text)
    (λ end. IsWhyUnwritten end fails × (n : ℕ) × Appends held held' (take n text))

-- One line had its turn, of which this was known.
pub record Takes (wish : Wish) (before after : Scene) : Type 0 where
  pub outcome : Outcome
  pub fits : Fits wish outcome
  pub submitted : Grows before.answered after.answered (submitted_by outcome)
  pub program : after.program ≡ in_force_after before.program (submitted_by outcome)
  pub written : Appends before.held after.held (text_of outcome)

-- One line had its turn, of which this was known, and a prefix of its answer went out.
pub record TakesShort (wish : Wish) (before after : Scene) : Type 0 where
  pub outcome : Outcome
  pub fits : Fits wish outcome
  pub submitted : Grows before.answered after.answered (submitted_by outcome)
  pub program : after.program ≡ in_force_after before.program (submitted_by outcome)
  pub output : List ℕ
  pub unwritten : List ℕ
  pub begins : text_of outcome ≡ output ++ unwritten
  pub written : Appends before.held after.held output

-- how a session ended at one line; where memory ran out for the program of a change, or for what there is to tell,
-- nothing was submitted
abbrev pub StopsAt : SessionEnd → Wish → Type 0 → Scene → Scene → Type 0
StopsAt ends.Closed wish fails before after = ⊥
StopsAt ends.Dismissed wish fails before after = (wish ≡ wishes.Leave) × (after ≡ before)
StopsAt ends.Device wish fails before after = fails × TakesShort wish before after
StopsAt ends.Memory wish fails before after = (after ≡ before) ⊎ TakesShort wish before after
StopsAt ends.Unanswered wish fails before after = after ≡ before

-- ---- what is noted of the commands

-- what a command changed that was answered so: nothing where it was refused, or only reads
abbrev pub deed_done : Command → Answer → Option Deed
deed_done command (Refused why) = None
deed_done command answer = deed_of command

-- this was noted, if anything
abbrev pub Notes : Option Deed → Journal → Journal → Type 0
Notes None old new = new ≡ old
Notes (Some deed) old new = IsPut (notices.Done deed) old new
