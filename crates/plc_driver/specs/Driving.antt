-- When scans are due, what the driver of a group asks for and publishes, and why a group doesn't start.
use Rattle.std.specs.Prelude.{◌≡◌, ℕ, ◌+◌, ◌-◌, ◌/◌, ◌^◌, min, if◌then◌else◌, nat_le, nat_lt, Bool, length, Result}
use Rattle.std.specs.Prelude.{IfOk, List, [], ◌∷◌, ◌++◌, Option, Some, None, is_some}
use Rattle.std.specs.Duration.{max_nanos}
use Rattle.il_model.specs.declared.command.Command.{Command}
use Rattle.vr_model.specs.declared.message.Message.{Message}
use Rattle.vr_model.specs.Logs.{Request}
use Rattle.vr_model.specs.StandsFor.{body_with}
use Rattle.vr_model.specs.World.{ClientState}
use Rattle.plc_settings.specs.declared.Links.{Links}
use Rattle.plc_settings.specs.declared.Links.TheVariants as kinds
use Rattle.vr_ports.specs.Parties.{Grows}
use Rattle.vr_client.specs.Client.{Client}
use Rattle.io_image.specs.declared.release.Release.{Release}
use Rattle.io_image.specs.Book.{Book}
use Rattle.io_driver.specs.Driver.{release_by, SubmitsSample}
use Rattle.plc_host.specs.declared.failed.Failed.{Failed}
use Rattle.plc_host.specs.declared.failed.Failed.TheVariants as failures
use Rattle.vr_threads.specs.declared.cluster.ClusterError.{ClusterError}
use Rattle.vr_threads.specs.declared.cluster.ClusterError.TheVariants as starts
use Rattle.plc_status.specs.declared.scans.Scan.{Scan}
use Rattle.plc_status.specs.Scans.{halt_by}
use Rattle.plc_driver.specs.declared.pace.Came.{Came}
use Rattle.plc_driver.specs.declared.drive.Scanned.{Scanned}
use Rattle.plc_driver.specs.declared.links.GroupLinks.{GroupLinks}
use Rattle.plc_driver.specs.declared.links.GroupLinks.TheVariants as links

-- ---- when scans are due, in nanoseconds since a beginning

-- Behind a scan that was due then and came now: a period after that was due; or, where it came a period late or more, a
-- period from now, so that none is made up for.
abbrev pub due_behind : ℕ → ℕ → ℕ → ℕ
due_behind due now period = if nat_lt now (due + period) then due + period else now + period

-- the same, but no later than the longest time that is told
abbrev pub next_due : ℕ → ℕ → ℕ → ℕ
next_due due now period = min (due_behind due now period) max_nanos

-- whether a scan that was due then and came now came a period late or more
abbrev pub is_late : ℕ → ℕ → ℕ → Bool
is_late due now period = nat_le (min (due + period) max_nanos) now

-- a scan that was due then came at this moment, in milliseconds and in microseconds, and the next one is due after it
abbrev pub IsAwaited : ℕ → ℕ → ℕ → Came → Type 0
IsAwaited period due due_after came = (now : ℕ) × (came.moment ≡ min (now / 1_000_000) (2 ^ 64 - 1))
    × (came.at ≡ min (now / 1_000) (2 ^ 64 - 1)) × (came.is_late ≡ is_late due now period)
    × (due_after ≡ next_due due now period)

-- so long the driver waits for a reply before it asks again: a period, but no longer than a second
abbrev pub longest_silence : ℕ → ℕ
longest_silence period = min period 1_000_000_000

-- scans that were due at 3 s, each 100 ms, by when they came
pub record WorkedDues : Type 0 where
  pub at_once : next_due 3_000_000_000 3_000_000_000 100_000_000 ≡ 3_100_000_000
  pub late : next_due 3_000_000_000 3_099_999_999 100_000_000 ≡ 3_100_000_000
  pub a_period_late : next_due 3_000_000_000 3_100_000_000 100_000_000 ≡ 3_200_000_000
  pub much_later : next_due 3_000_000_000 9_950_000_000 100_000_000 ≡ 10_050_000_000

-- ---- scans and releases

-- the releases that there are of a message: one or none
abbrev pub releases : Option Release → List Release
releases (Some release) = release ∷ []
releases None = []

-- what a message releases was published, and nothing else, and whether there was something is told
abbrev pub Publishes : Option Release → Bool → List Release → List Release → Type 0
Publishes release is_released old new = (new ≡ old ++ releases release) × (is_released ≡ is_some release)

-- There is a message whose release was published, if it has one, and by which the scan was held or stopped, if it was;
-- whatever log is meant by what it carries.
pub record Scans (scanned : Scanned) (old new : List Release) : Type 0 where
  pub message : Message
  pub knows : ClientState Command
  pub halts : (log : List (Request Command)) → scanned.halt ≡ halt_by (body_with log message.body)
  pub published : (log : List (Request Command))
      → Publishes (release_by knows (body_with log message.body)) scanned.is_released old new

-- A good end comes after as many scans as were asked for, each of which released once more.
abbrev pub HasRun : Option ℕ → List Release → List Release → Result ℕ Failed → Type 0
HasRun asked old new result = IfOk result (λ scans. (asked ≡ Some scans) × (length new ≡ length old + scans))

-- why no replica runs
abbrev pub start_failed : ClusterError → Failed
start_failed starts.Memory = failures.Memory
start_failed starts.Thread = failures.Thread

-- what is counted of a scan that came so, by what came of it
abbrev pub scan_of : Came → Scanned → Scan
scan_of came scanned =
    record { at = came.at; is_late = came.is_late; is_released = scanned.is_released; halt = scanned.halt }

-- A scan was asked for: a sample of the inputs was taken and its scan submitted, of this moment, in milliseconds; the
-- link took the request; and the next scan is due after it.
pub record AsksForScan (period due due_after : ℕ) (came : Came) (d d' : Client) (told told' : Option Book)
    (sent sent' : Option (List Message)) : Type 0 where
  pub awaited : IsAwaited period due due_after came
  pub sends : List Message
  pub submitted : SubmitsSample d told came.moment sends d' told'
  pub took : Grows sent sent' sends

-- ---- the links of a group

-- how messages go over them
abbrev pub kind_of : {R : Type 0} → GroupLinks R → Links
kind_of (links.Tcp l) = kinds.Tcp
kind_of (links.Channels l) = kinds.Channels
