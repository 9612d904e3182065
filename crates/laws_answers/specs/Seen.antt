-- What clients did among the moves of a group, as the events of a schedule and what a trace of it releases: so that
-- there is one history of them in the very words in which there is one of a schedule.
use Rattle.std.specs.Prelude.{◌≡◌, ℕ, suc, List, [], ◌∷◌, ◌++◌}
use Rattle.il_model.specs.declared.command.Command.{Command}
use Rattle.il_model.specs.declared.command.Answer.{Answer}
use Rattle.il_model.specs.Program.{Program}
use Rattle.il_loader.specs.Images.{Reading, ReadsImages}
use Rattle.ctl_debugger.specs.Owned.{cold_owned}
use Rattle.ctl_debugger.specs.Outcome.{answers_with}
use Rattle.vr_model.specs.declared.message.Request.{Request}
use Rattle.vr_model.specs.Messages.{Body, Reply}
use Rattle.vr_model.specs.Report.{Release}
use Rattle.vr_model.specs.Steps.{ClientAction, Submits, Retries, StartsAgain, Hears}
use Rattle.vr_schedules.specs.declared.event.WorldEvent.{WorldEvent}
use Rattle.vr_schedules.specs.declared.event.WorldEvent.TheVariants.{Submit, Retry, ClientRestart, Deliver}
use Rattle.vr_schedules.specs.declared.trace.Release as told
use Rattle.vr_schedules.specs.declared.trace.Trace.{Trace}
use Rattle.vr_schedules.specs.Standing.{releases_of}
use Rattle.vr_world.specs.History.{IsOneHistory}
use Rattle.laws_threads.specs.CodeMoves.{CodeMove, Starts, Steps, Dies, Serves, clients_in}
use Rattle.laws_threads.specs.ClientStarts.{asked}

-- the event that a client's step is; what it hears goes by its place among all that was handed out
abbrev pub event_of : ℕ → ClientAction Command Answer → ℕ → WorldEvent
event_of c (Submits command) place = Submit c command
event_of c Retries place = Retry c
event_of c StartsAgain place = ClientRestart c
event_of c (Hears m) place = Deliver place

-- what it hears of answers by event number e
abbrev pub answers_in : ℕ → ℕ → Body Command Answer → List (Release Answer)
answers_in e c (Reply view number answer) = record { event = e; client = c; number = number; answer = answer } ∷ []
answers_in e c _ = []

abbrev pub heard_by : ℕ → ℕ → ClientAction Command Answer → List (Release Answer)
heard_by e c (Hears m) = answers_in e c m.body
heard_by e c _ = []

module _ {S : Type 0} where
  -- what clients did, one event a step
  abbrev pub schedule_of : List (CodeMove S) → List WorldEvent
  schedule_of [] = []
  schedule_of (Starts i q found left number starts ∷ ms) = schedule_of ms
  schedule_of (Steps i e place r left result ∷ ms) = schedule_of ms
  schedule_of (Dies i e place left ∷ ms) = schedule_of ms
  schedule_of (Serves c d out place ∷ ms) = event_of c d.action place ∷ schedule_of ms

  -- every answer that a client heard, also one that it didn't wait for any more; the first step is event number e
  abbrev pub heard_from : ℕ → List (CodeMove S) → List (Release Answer)
  heard_from e [] = []
  heard_from e (Starts i q found left number starts ∷ ms) = heard_from e ms
  heard_from e (Steps i x place r left result ∷ ms) = heard_from e ms
  heard_from e (Dies i x place left ∷ ms) = heard_from e ms
  heard_from e (Serves c d out place ∷ ms) = heard_by e c d.action ++ heard_from (suc e) ms

-- the lists of a trace that one history is said of
pub record Lists (trace : Trace) (order : List Request) (lengths : List ℕ) (releases : List told.Release) : Type 0 where
  pub order_is : trace.order.items ≡ order
  pub lengths_are : trace.lengths.items ≡ lengths
  pub releases_are : trace.releases.items ≡ releases

-- What clients submitted and heard among these moves is one history: of each trace with these lists, whose releases are
-- what they heard. All answers are those of one controller of this program, each scan within the budget; the bytes of a
-- change are read as images are.
pub record IsSeenAsOne {S : Type 0} (program : Program) (budget : ℕ) (moves : List (CodeMove S)) : Type 0 where
  pub reading : Reading
  pub reads : ReadsImages reading
  pub order : List Request
  pub lengths : List ℕ
  pub releases : List told.Release
  pub heard : releases_of releases ≡ heard_from 0 moves
  pub history : (trace : Trace) → Lists trace order lengths releases
      → IsOneHistory (answers_with reading (cold_owned program budget)) (schedule_of moves) trace

-- So it is among moves in which clients submit and hear the same, each start taken up to the one that it counts.
pub record IsSeenOverStarts {S : Type 0} (program : Program) (budget : ℕ) (was : List (CodeMove S)) : Type 0 where
  pub moves : List (CodeMove S)
  pub same : asked (clients_in moves) ≡ asked (clients_in was)
  pub one : IsSeenAsOne program budget moves
