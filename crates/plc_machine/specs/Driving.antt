-- What the driver of a machine does by a look at its replica, by a scan and by a reply, and when it shows outputs.
use Rattle.std.specs.Prelude.{◌≡◌, ℕ, ◌+◌, ◌*◌, ◌≤◌, ◌<◌, List, Option, Some, None, nat_lt, is_some}
use Rattle.std.specs.Prelude.{Bool, false, true, if◌then◌else◌, option_map}
use Rattle.std.specs.Duration.{as_nanos}
use Rattle.std.specs.declared.time.Duration.{Duration}
use Rattle.vr_model.specs.declared.message.Message.{Message}
use Rattle.io_image.specs.Book.{Book}
use Rattle.io_image.specs.declared.release.Release.{Release}
use Rattle.io_driver.specs.Driver.{SubmitsSample}
use Rattle.plc_machine.specs.declared.driver.MachineDriver.{MachineDriver}
use Rattle.plc_machine.specs.declared.leading.Course.{Course}
use Rattle.plc_machine.specs.declared.leading.Course.TheVariants.{StandingBy, Leading}
use Rattle.plc_machine.specs.declared.leading.LastScan.{LastScan}
use Rattle.plc_machine.specs.declared.leading.Lead.{Lead}
use Rattle.plc_machine.specs.Leading.{Follows, later_by, moment_at, next_due}

-- the machine goes on as it is: it stands by and its replica leads nothing, or both lead one view
abbrev pub IsKept : Option ℕ → Course → Type 0
IsKept None StandingBy = Unit {0}
IsKept None (Leading lead) = ⊥
IsKept (Some view) StandingBy = ⊥
IsKept (Some view) (Leading lead) = lead.view ≡ view

-- each start of a machine has so many starts of its client
abbrev pub client_starts : ℕ → Option ℕ
client_starts starts = if nat_lt starts 65536 then Some (starts * 65536) else None

-- nothing waits any more, and all else is as it was; its client's starts rose as those that were counted
pub record GivesUp (a b : MachineDriver) : Type 0 where
  pub waits : is_some b.driver.state.waits ≡ false
  pub restarts : b.driver.state.starts + a.restarts ≡ a.driver.state.starts + b.restarts
  pub course : b.course ≡ a.course
  pub pace : b.pace ≡ a.pace
  pub submitted : b.submitted ≡ a.submitted
  pub shown : b.shown ≡ a.shown

-- the machine follows what its replica shows; where it doesn't go on as it is, nothing waits and nothing is shown
pub record Looks (leads : Option ℕ) (last : Option LastScan) (now : Duration) (a b : MachineDriver) : Type 0 where
  pub course : Follows a.course leads last now a.pace b.course
  pub pace : b.pace ≡ a.pace
  pub restarts : b.driver.state.starts + a.restarts ≡ a.driver.state.starts + b.restarts
  pub kept : IsKept leads a.course → (b.driver ≡ a.driver) × (b.shown ≡ a.shown) × (b.submitted ≡ a.submitted)
  pub turned : (IsKept leads a.course → ⊥) → (is_some b.driver.state.waits ≡ false) × (b.shown ≡ None)

-- the machine leads and a scan is due; the scan of one sample was submitted, at the moment of now; the next one is due
-- behind it
pub record SubmitsScan (now : Duration) (told : Option Book) (sends : List Message) (told' : Option Book)
    (a b : MachineDriver) : Type 0 where
  pub lead : Lead
  pub later : Lead
  pub leads : a.course ≡ Leading lead
  pub is_due : as_nanos lead.due ≤ as_nanos now
  pub scan : SubmitsSample a.driver told (moment_at lead.from (as_nanos now)) sends b.driver told'
  pub goes_on : b.course ≡ Leading later
  pub same : (later.view ≡ lead.view) × (later.from ≡ lead.from) × (later.opens ≡ lead.opens)
  pub due : as_nanos later.due ≡ next_due (as_nanos lead.due) (as_nanos now) (as_nanos a.pace.period)
  pub submitted : b.submitted ≡ now
  pub kept : (b.shown ≡ a.shown) × (b.pace ≡ a.pace)

-- As of which submission outputs are shown, once the scan that was submitted then is answered, or isn't: what it
-- releases is shown as of then. Where it's answered and releases nothing it's held, and what was shown before stays, as
-- of then, if anything was. Behind any other message all is as before.
abbrev pub shown_by : Bool → Bool → Duration → Option Duration → Option Duration
shown_by true is_answered submitted before = Some submitted
shown_by false true submitted before = option_map (λ earlier. submitted) before
shown_by false false submitted before = before

-- a message released this, if anything, and answered the scan that waits, or didn't
abbrev pub TakesReply : Option Release → Bool → MachineDriver → MachineDriver → Type 0
TakesReply release is_answered a b =
    (b.shown ≡ shown_by (is_some release) is_answered a.submitted a.shown) × (b.course ≡ a.course)
    × (b.submitted ≡ a.submitted) × (b.pace ≡ a.pace)

-- by which times outputs are shown now
abbrev pub ShowsAt : ℕ → Course → Option Duration → ℕ → Type 0
ShowsAt now (Leading lead) (Some submitted) fresh =
    (as_nanos lead.opens ≤ now) × (now < later_by (as_nanos submitted) fresh)
ShowsAt now (Leading lead) None fresh = ⊥
ShowsAt now StandingBy shown fresh = ⊥

abbrev pub Shows : Duration → MachineDriver → Type 0
Shows now driver = ShowsAt (as_nanos now) driver.course driver.shown (as_nanos driver.pace.fresh)
