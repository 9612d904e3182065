-- What is read for the page: what shows, and the last lines that an operator was told.
use Rattle.std.specs.Prelude.{◌≡◌, ◌<◌, ◌+◌, ℕ, suc, ℤ, pos, Bool, true, false, List}
use Rattle.std.specs.Prelude.{Option, Some, None, get_or, length, ◌-◌, drop, map}
use Rattle.http_server.specs.declared.state.Config.{Config}
use Rattle.il_model.specs.declared.cells.Cells.{Cells}
use Rattle.il_model.specs.declared.program.Loc.{Loc}
use Rattle.il_values.specs.declared.value.Value.{Value}
use Rattle.il_values.specs.declared.value.Value.TheVariants as values
use Rattle.il_model.specs.Doubles.{word_value, double_value}
use Rattle.il_model.specs.declared.program.Loc.TheVariants as places
use Rattle.vr_shown.specs.declared.shown.Shown.{Shown}
use Rattle.vr_shown.specs.Showing.{nothing_shown}
use Rattle.plc_host.specs.Requests.{functions as counted_functions}
use Rattle.plc_status.specs.declared.machine.MachineStatus.{MachineStatus}
use Rattle.plc_status.specs.declared.scans.Halt.{Halt as Published}
use Rattle.plc_status.specs.declared.scans.ScanStatus.{ScanStatus}
use Rattle.plc_status.specs.declared.status.Status.{Status}
use Rattle.plc_status.specs.declared.scans.Halt.TheVariants as published
use Rattle.plc_status.specs.Scans.{bounds as published_bounds}
use Rattle.plc_status.specs.Published.{status_words, AreOfGroup}
use Rattle.plc_figures.specs.declared.reading.Clients.{Clients}
use Rattle.plc_figures.specs.declared.reading.Halt.{Halt}
use Rattle.plc_figures.specs.declared.reading.Machine.{Machine}
use Rattle.plc_figures.specs.declared.reading.Point.{Point}
use Rattle.plc_figures.specs.declared.reading.Replica.{Replica}
use Rattle.plc_figures.specs.declared.reading.Scans.{Scans}
use Rattle.plc_figures.specs.declared.reading.Told.{Told}
use Rattle.plc_figures.specs.declared.reading.Halt.TheVariants as halts
use Rattle.plc_figures.specs.Readings.{bounds as shown_bounds, functions as shown_functions}
use Rattle.plc_page.specs.declared.outputs.Named.{Named}
use Rattle.plc_page.specs.declared.whose.Whose.{Whose}
use Rattle.plc_page.specs.declared.whose.Whose.TheVariants as whose

abbrev pub word_at : Cells → ℕ → ℤ
word_at cells number = get_or cells.words number (pos 0)

-- what there is at a place among these cells
abbrev pub value_at : Cells → Loc → Value
value_at cells (places.Bit area number) = values.Bool (get_or cells.bits number false)
value_at cells (places.Word area number) = values.Int (word_at cells number)
value_at cells (places.Pattern area number) = word_value (word_at cells number)
value_at cells (places.Double area number t) = double_value t (word_at cells number) (word_at cells (suc number))

-- a name with what there is at its place
abbrev pub point_at : Cells → Named → List ℕ × (Loc × Value)
point_at cells named = (named.name.items, (named.place, value_at cells named.place))

-- what shows of a point
abbrev pub shown : Point → List ℕ × (Loc × Value)
shown point = (point.name.items, (point.place, point.value))

-- by what a scan was held or stopped
abbrev pub halt_of : Option Published → Option Halt
halt_of (Some (published.Held position)) = Some (halts.Held position)
halt_of (Some (published.Stopped stop position)) = Some (halts.Stopped stop position)
halt_of None = None

-- what shows of the scans is what is published of them, with the intervals counted up to the same bounds; how long ago
-- the last release was is told by a clock
pub record IsOfScans (published : ScanStatus) (shown : Scans) : Type 0 where
  pub scans : shown.scans ≡ published.scans
  pub late : shown.late ≡ published.late
  pub releases : shown.releases ≡ published.releases
  pub interval : shown.interval ≡ published.interval
  pub interval_sum : shown.interval_sum ≡ published.interval_sum
  pub interval_counts : shown.interval_counts ≡ published.interval_counts
  pub halt : shown.halt ≡ halt_of published.halt
  pub bounds : shown_bounds ≡ published_bounds

-- what shows of clients is what was counted of them, with the same functions
pub record IsOfClients (published : Status) (shown : Clients) : Type 0 where
  pub sessions : shown.sessions ≡ published.sessions
  pub open_sessions : shown.open_sessions ≡ published.open_sessions
  pub requests : shown.functions ≡ published.requests.functions
  pub exceptions : shown.exceptions ≡ published.requests.exceptions
  pub functions : shown_functions ≡ counted_functions

-- of a group nothing shows of a machine; of a machine what is published of it, with its number
abbrev pub machine_of : Whose → Option MachineStatus → Option Machine
machine_of (whose.Group count) published = None
machine_of (whose.Machine number) None = None
machine_of (whose.Machine number) (Some published) =
    Some (record {
      number = number;
      epoch = published.epoch;
      is_driving = published.is_driving;
      heard = published.heard;
      others = published.others;
      has_majority = published.has_majority;
      forged = published.forged;
    })

-- outputs that were released here are those of the controller: of a machine that stands by they aren't
abbrev pub shows_outputs : Option Machine → Bool
shows_outputs None = true
shows_outputs (Some machine) = machine.is_driving

-- the number of the first replica that shows
abbrev pub first_of : Whose → ℕ
first_of (whose.Group count) = 0
first_of (whose.Machine number) = number

abbrev pub replica_of : ℕ → Shown → Replica
replica_of number shown = record {
  number = number;
  standing = shown.standing;
  starts = shown.starts;
  has_failed = shown.has_failed;
}

-- from this number on, each replica has its number, and what the status has of the replica with that number
abbrev pub AreOfStatus : Status → ℕ → List Replica → Type 0
AreOfStatus status first replicas =
    (group : List Shown) (scans : ScanStatus) → AreOfGroup group → status.words ≡ status_words group scans
    → (place : ℕ) (other : Replica) → place < length replicas
    → get_or replicas place other ≡ replica_of (first + place) (get_or group (first + place) nothing_shown)

-- a head of a request has at most 8192 bytes, and no request has a body
abbrev pub IsLimited : Config → Type 0
IsLimited config = (config.limits.max_head_len ≡ 8192) × (config.max_body_len ≡ 0)

-- ---- the last lines that an operator was told

-- a line, and when it was told
abbrev pub line_of : Told → ℕ × List ℕ
line_of told = (told.at, told.line.items)

abbrev pub lines_of : List Told → List (ℕ × List ℕ)
lines_of told = map line_of told

-- the last so many, or all where there are no more
abbrev pub last : {X : Type 0} → ℕ → List X → List X
last count xs = drop (length xs - count) xs
