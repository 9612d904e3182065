-- Devices, as they are asked: what is handed over of them, in order, and whether the controller's outputs are known.
use Rattle.std.specs.Prelude.{ℕ, ◌+◌, ◌-◌, ℤ, Bool, false, true, not, ◌&&◌, ◌||◌, nat_le, nat_lt, if◌then◌else◌, Option, Some, None, ◌≡◌}
use Rattle.std.specs.Prelude.{◌≤◌, is_some, is_none, option_and_then, length, slice_get}
use Rattle.std.specs.Ordering.{int_eq}
use Rattle.il_model.specs.declared.cells.Cells.{Cells}
use Rattle.modbus_wire.specs.declared.request.Request.{Request}
use Rattle.field_map.specs.declared.device.Device.{Device}
use Rattle.field_map.specs.Rounds.{handed_inputs, handed_alive, steps_of}
use Rattle.field_cycle.specs.declared.freshness.Freshness.{Freshness}
use Rattle.field_cycle.specs.declared.hands.Hands.{Hands}
use Rattle.field_cycle.specs.declared.link.LinkFault.{LinkFault}
use Rattle.field_cycle.specs.declared.round.Round.{Round}
use Rattle.field_cycle.specs.declared.notices.Change.{Change}
use Rattle.field_cycle.specs.declared.station.Standing.{Standing}
use Rattle.field_cycle.specs.declared.station.Station.{Station}
use Rattle.field_cycle.specs.declared.controller.Controller.{Controller}
use Rattle.field_cycle.specs.declared.notices.Change.TheVariants as changes
use Rattle.field_cycle.specs.declared.station.Standing.TheVariants as standings
use Rattle.il_model.specs.Locations.{clear_cells}
use Rattle.field_map.specs.declared.places.Places.{Places}
use Rattle.field_cycle.specs.declared.link.TheConstants.{TURN}
use Rattle.field_cycle.specs.declared.passage.Pace.{Pace}
use Rattle.field_cycle.specs.declared.passage.Pace.TheVariants.{Counted, Timed}
use Rattle.field_cycle.specs.declared.passage.Showing.{Showing}
use Rattle.field_cycle.specs.declared.passage.Passage.{Passage}
use Rattle.field_cycle.specs.declared.passage.Passage.TheVariants.{Unread, Read}
use Rattle.field_cycle.specs.Passages.{is_released, read_of}
use Rattle.field_cycle.specs.Links.{later, is_idle, is_up, turned_away}
use Rattle.field_cycle.specs.declared.spans.Spans.{Spans}
use Rattle.field_cycle.specs.Spans.{with_span}
use Rattle.field_cycle.specs.Rounds.{begun, no_outputs, only_reading}

-- ---- whether the controller's outputs are known

-- it never answered
abbrev pub never : Freshness
never = record { answered = None; count = None; counted = None }

-- a moment no longer ago than so long
abbrev pub is_recent : Option ℕ → ℕ → ℕ → Bool
is_recent None now fresh = false
is_recent (Some moment) now fresh = nat_le now (later moment fresh)

-- two counts that differ
abbrev pub is_other : Option ℤ → Option ℤ → Bool
is_other (Some before) (Some count) = not (int_eq before count)
is_other _ _ = false

-- it showed its outputs now, with this count, and they were taken or not
abbrev pub heard_at : Freshness → ℕ → Option ℤ → Bool → Freshness
heard_at f now count is_taken =
    record {
      answered = if is_taken then Some now else f.answered;
      count = count;
      counted = if is_other f.count count then Some now else f.counted;
    }

-- its outputs were taken lately, and where scans are counted, the count changed lately
abbrev pub is_fresh : Freshness → ℕ → ℕ → Bool → Bool
is_fresh f now fresh counts = is_recent f.answered now fresh && (not counts || is_recent f.counted now fresh)

-- ---- what is handed over of a device, in order

abbrev pub nothing : Hands
nothing = record { first = None; second = None }

abbrev pub is_nothing : Hands → Bool
is_nothing h = is_none h.first && is_none h.second

-- the inputs that were gathered, whole, and then that it answers, if that is to be told
abbrev pub answered : Hands → Device → Cells → Bool → Hands
answered h d gathered tells =
    record { first = handed_inputs d (Some gathered); second = if tells then handed_alive d true else h.second }

-- that it's lost, and then the inputs by their fallback
abbrev pub losing : Device → Hands
losing d = record { first = handed_alive d false; second = handed_inputs d None }

-- that nobody asks it any more, and then that its inputs are FALSE and 0
abbrev pub ending : Device → Hands
ending d = record { first = handed_alive d false; second = handed_inputs d (Some clear_cells) }

abbrev pub next_by : Option Request → Option Request → Option Request
next_by (Some request) second = Some request
next_by None second = second

abbrev pub next_of : Hands → Option Request
next_of h = next_by h.first h.second

abbrev pub left_by : Option Request → Option Request → Hands
left_by (Some request) second = record { first = None; second = second }
left_by None second = nothing

-- what is left once the next one is taken
abbrev pub left : Hands → Hands
left h = left_by h.first h.second

-- ---- devices

-- what changes where one answers
abbrev pub found_by : Standing → Option Change
found_by standings.Unknown = Some changes.Found
found_by standings.Answers = None
found_by standings.Lost = Some changes.Back

-- what changes where one is lost: told once
abbrev pub lost_by : Standing → LinkFault → Option Change
lost_by standings.Lost fault = None
lost_by _ fault = Some (changes.Lost fault)

-- a round begins where one is due, none goes on, and the device can be asked
abbrev pub may_begin : Station → Bool
may_begin s = s.is_due && (is_none s.round && is_idle s.link.phase)

-- what the device was written and has; nothing once all is to be written again
abbrev pub has_already : Station → ℕ → Option Cells
has_already s now = if nat_lt now (later s.refreshed s.device.refresh) then s.written else None

-- with the outputs, where they are known; else by the fallbacks, where the device has outputs; else it's only read
abbrev pub begun_as : Station → Option Cells → ℕ → Round
begun_as s (Some known) now = begun (record { known = Some known; written = has_already s now })
begun_as s None now = if s.has_outputs then begun no_outputs else only_reading s.device

-- none before a scan that had its inputs was released
abbrev pub outputs_of : Station → Option Cells → Option Cells
outputs_of s outputs = if s.is_admitted then outputs else None

abbrev pub begins : Station → Option Cells → ℕ → Option Round
begins s outputs now = if may_begin s then Some (begun_as s (outputs_of s outputs) now) else s.round

-- a round begins that writes all outputs
abbrev pub is_refreshing : Station → Option Cells → ℕ → Bool
is_refreshing s outputs now = may_begin s && (is_some (outputs_of s outputs) && is_none (has_already s now))

-- when the last round began that wrote all outputs
abbrev pub refreshed : Station → Option Cells → ℕ → ℕ
refreshed s outputs now = if is_refreshing s outputs now then now else s.refreshed

-- when the last round began
abbrev pub begun_at : Station → ℕ → ℕ
begun_at s now = if may_begin s then now else s.begun

-- a device has outputs from the first round with them on
abbrev pub has_outputs : Station → Option Cells → Bool
has_outputs s outputs = s.has_outputs || (may_begin s && is_some (outputs_of s outputs))

-- each step is done
abbrev pub IsWhole : Device → Option Round → Type 0
IsWhole d None = Unit {0}
IsWhole d (Some r) = steps_of d ≤ r.step

-- what a round gathered is to be handed over, or after the last one that nobody asks the device any more; the device
-- has its outputs, and after one without outputs it has none
abbrev pub HandsOverRound : Option Round → Station → Station → Type 0
HandsOverRound None before after = Unit {0}
HandsOverRound (Some r) before after =
    (after.hands ≡ (if before.is_ending then ending before.device
    else answered before.hands before.device r.gathered before.tells))
    × (after.has_outputs ≡ before.has_outputs && is_some r.outputs.known) × (after.written ≡ r.outputs.known)
    × (after.passage ≡ read_of before.passage)

abbrev pub HandsOver : Station → Station → Type 0
HandsOver before after = (after.device ≡ before.device) × HandsOverRound before.round before after

abbrev pub spans_after_round : Option Round → Station → ℕ → Spans
spans_after_round None s now = s.spans
spans_after_round (Some r) s now = with_span s.spans (now - s.begun)

-- how long a round took is counted, if one goes on
abbrev pub spans_after : Station → ℕ → Spans
spans_after s now = spans_after_round s.round s now

-- Its inputs are unread, it may be written no outputs, and nothing is known of what it has.
abbrev pub IsLost : Station → Type 0
IsLost s = (s.round ≡ None) × (s.passage ≡ Unread) × (s.is_admitted ≡ false) × (s.written ≡ None)

abbrev pub is_passed_as : Standing → Passage → Bool
is_passed_as standings.Lost passage = true
is_passed_as _ passage = is_released passage

-- a scan that had its inputs was released, or it's lost, and has none
abbrev pub is_passed : Station → Bool
is_passed s = is_passed_as s.standing s.passage

-- ---- what is handed over to a controller that knows nothing

abbrev pub hands_anew_of : Standing → Option Round → Bool → Hands → Device → Hands
hands_anew_of standings.Answers (Some r) true h d = answered h d r.gathered true
hands_anew_of standings.Answers _ _ h d = h
hands_anew_of _ _ _ h d = losing d

-- what was read of the device last, if it answers; that it's lost, if it doesn't
abbrev pub hands_anew : Station → Hands
hands_anew s = hands_anew_of s.standing s.last (is_up s.link.phase) s.hands s.device

abbrev pub passage_anew_of : Standing → Option Round → Bool → Passage
passage_anew_of standings.Answers (Some r) true = Read
passage_anew_of _ _ _ = Unread

abbrev pub passage_anew : Station → Passage
passage_anew s = passage_anew_of s.standing s.last (is_up s.link.phase)

-- ---- the controller

-- the value of a word, if there is one
abbrev pub count_of : Cells → Option Places → Option ℤ
count_of cells word = option_and_then (λ p. slice_get cells.words p.from) word

abbrev pub pace_of : Controller → Pace
pace_of c =
    if is_some c.scan_count then Counted (is_other c.freshness.count (count_of c.shown c.scan_count)) else Timed c.scan

-- its outputs were shown now, with a count that is another than before or not, where a word counts scans
abbrev pub showing_of : Controller → ℕ → Showing
showing_of c now = record { now = now; pace = pace_of c }

-- the outputs that were taken last, while the controller is fresh, whether there is a connection or none
abbrev pub known_outputs : Controller → ℕ → Option Cells
known_outputs c now = if is_fresh c.freshness now c.fresh (is_some c.scan_count) then Some c.outputs else None

-- none once the field ends
abbrev pub outputs_for : Controller → ℕ → Bool → Option Cells
outputs_for c now is_ending = if is_ending then None else known_outputs c now

-- what is shown counts only once a scan that had each device's inputs was released since there is a connection
abbrev pub taken_outputs : Controller → Bool → Cells
taken_outputs c is_passed = if c.is_released || is_passed then c.shown else c.outputs

-- what is known of its outputs stays
abbrev pub HasSameOutputs : Controller → Controller → Type 0
HasSameOutputs before after = (after.outputs ≡ before.outputs) × (after.freshness ≡ before.freshness)

-- the outputs are the same, and not known for longer
abbrev pub HasOldOutputs : Controller → Controller → Type 0
HasOldOutputs before after =
    (after.outputs ≡ before.outputs) × (after.freshness.answered ≡ before.freshness.answered)

-- another address stands behind the one that was tried
abbrev pub is_another : Controller → Bool
is_another c = nat_lt (c.place + 1) (length c.addresses.items)

-- the next address, or the first again
abbrev pub next_place : Controller → ℕ
next_place c = if is_another c then c.place + 1 else 0

-- the next address is tried at once, the first again after a pause
abbrev pub next_try : Controller → ℕ → ℕ
next_try c now = if is_another c then now else later now TURN

-- What is known of its outputs stays, and the next address is tried.
abbrev pub IsTurnedAway : Controller → Controller → ℕ → Type 0
IsTurnedAway before after now = HasSameOutputs before after × (after.is_released ≡ before.is_released)
    × (after.place ≡ next_place before) × (after.link ≡ turned_away before.link (next_try before now))
