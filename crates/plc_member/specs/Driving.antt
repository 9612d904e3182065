-- What the driver of a machine does in a turn, and what the trace of the machine is told.
use Rattle.std.specs.Prelude.{◌≡◌, ◌⊎◌, ◌++◌, ◌∷◌, [], List, Option, Some, None, ℕ, Bool, ◌==◌, ◌&&◌, ◌||◌, nat_lt}
use Rattle.std.specs.Prelude.{nat_le, if◌then◌else◌}
use Rattle.std.specs.declared.time.Duration.{Duration}
use Rattle.il_model.specs.declared.command.Command.{Command}
use Rattle.il_model.specs.declared.command.Answer.{Answer}
use Rattle.vr_model.specs.Messages.{Body, Reply}
use Rattle.vr_model.specs.declared.message.Message.{Message}
use Rattle.io_image.specs.Book.{Book}
use Rattle.io_image.specs.declared.release.Release.{Release}
use Rattle.plc_machine.specs.declared.driver.MachineDriver.{MachineDriver}
use Rattle.plc_machine.specs.Driving.{SubmitsScan}
use Rattle.plc_trace.specs.declared.line.Placed.{Placed}
use Rattle.plc_trace.specs.declared.line.Traced.{Traced}
use Rattle.plc_trace.specs.declared.trace.Trace.{Trace}
use Rattle.plc_trace.specs.Tracing.{IsPut}
use Rattle.plc_member.specs.declared.looked.Looked.{Looked}
use Rattle.plc_member.specs.declared.scans.Entered.{Entered}

-- the scan of some cells was submitted, as of a machine that leads and for which one was due at some time
pub record HasScanned (a b : MachineDriver) : Type 0 where
  pub now : Duration
  pub told : Option Book
  pub told_after : Option Book
  pub sends : List Message
  pub submitted : SubmitsScan now told sends told_after a b

-- or nothing was
abbrev pub MayScan : MachineDriver → MachineDriver → Type 0
MayScan a b = (b ≡ a) ⊎ HasScanned a b

-- what is released was published, and nothing else
abbrev pub Publishes : Option Release → List Release → List Release → Type 0
Publishes None old new = new ≡ old
Publishes (Some release) old new = new ≡ old ++ release ∷ []

-- ---- whether what was known of a log's last scan still holds, where no entry that is kept is a scan

-- so many entries were seen and stand: in the view of that look all that there were, in another one those committed
abbrev pub standing_in : Looked → ℕ → ℕ
standing_in looked view = if view == looked.view then looked.count else looked.committed

-- The scan at this place is the last one of a log of so many entries: it was seen and stands, and each entry behind
-- those that were seen is kept, so that it's no scan.
abbrev pub is_last : ℕ → ℕ → ℕ → Bool → Bool
is_last place stands count is_next_kept =
    nat_lt place stands && nat_lt place count && (nat_le count stands || is_next_kept)

-- ---- what the trace is told

-- where a scan stands that this client submitted under this number, and that was answered in this view: known where
-- it's the last one of the own log, as it was seen in that view
abbrev pub placed_by : Option Entered → ℕ → ℕ → ℕ → Option Placed
placed_by None client number view = None
placed_by (Some it) client number view =
    if (it.client == client) && ((it.number == number) && (it.view == view))
    then Some (record { place = it.place; moment = it.moment }) else None

-- what is told of a reply
abbrev pub traced_by : ℕ → ℕ → Option Entered → Body Command Answer → Option Traced
traced_by machine epoch entered (Reply view number answer) = Some (record {
  epoch = epoch;
  placed = placed_by entered machine number view;
  number = number;
  answer = answer;
})
traced_by machine epoch entered _ = None

-- it was put into the trace, if there is one, and else nothing was
abbrev pub Traces : Option Traced → Option Trace → Option Trace → Type 0
Traces (Some traced) (Some old) (Some new) = IsPut traced old new
Traces _ old new = new ≡ old

-- by a message that released something, and by no other
abbrev pub TracesRelease : Option Release → Option Traced → Option Trace → Option Trace → Type 0
TracesRelease None traced old new = new ≡ old
TracesRelease (Some release) traced old new = Traces traced old new
