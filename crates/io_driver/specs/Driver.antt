-- The scan driver: a client of the replication rules, which submits scans.
use Rattle.std.specs.Prelude.{ℕ, if◌then◌else◌, List, Option, None, option_map}
use Rattle.il_model.specs.declared.cells.Cells.{Cells}
use Rattle.il_model.specs.declared.command.Command.{Command}
use Rattle.il_model.specs.declared.command.Command.TheVariants.{Scan}
use Rattle.il_model.specs.declared.command.Answer.{Answer}
use Rattle.il_model.specs.Answers.{released_image}
use Rattle.vr_model.specs.declared.message.Message.{Message}
use Rattle.vr_model.specs.Messages.{Body, Reply}
use Rattle.vr_model.specs.World.{ClientState, is_waiting}
use Rattle.vr_model.specs.Steps.{Submits, MayClient}
use Rattle.io_image.specs.declared.release.Release.{Release}
use Rattle.io_image.specs.Book.{Book, Changed}
use Rattle.io_image.specs.Calls.{Does, sample_gave}
use Rattle.vr_client.specs.Client.{Client, new_client, SendsAt, BecomesAt}

-- client 0, of a group's driver that started so often before
abbrev pub first_driver : ℕ → ℕ → Client
first_driver f starts = new_client f 0 starts

-- the scan of these cells at this moment
abbrev pub scan_of : Cells → ℕ → Command
scan_of cells moment = Scan (record { cells = cells }) moment

-- One sample was taken, and the client submitted the scan of exactly its cells, as it may.
pub record SubmitsSample (d : Client) (told : Option Book) (moment : ℕ) (sends : List Message) (d' : Client)
    (told' : Option Book) : Type 0 where
  pub cells : Cells
  pub next : ℕ
  pub sample : Changed told told' (λ b c. Does b (sample_gave cells next) c)
  pub may : (answer : List Command → Answer) → MayClient d.f d.number answer d.state (Submits (scan_of cells moment))
  pub sent : SendsAt d (Submits (scan_of cells moment)) sends
  pub waits : BecomesAt d (Submits (scan_of cells moment)) d'

-- the release by a message: of a REPLY with the waiting number, where its answer has an image
abbrev pub release_by : ClientState Command → Body Command Answer → Option Release
release_by k (Reply view number answer) =
    if is_waiting k.waits number
    then option_map (λ image. record { number = number; image = image }) (released_image answer) else None
release_by k _ = None
