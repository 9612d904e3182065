-- What shows of a field, by its cycle.
use Rattle.std.specs.Prelude.{◌≡◌, ◌&&◌, ℕ, Bool, true, false, not, if◌then◌else◌, List, map, string_bytes}
use Rattle.field_cycle.specs.declared.controller.Controller.{Controller}
use Rattle.field_cycle.specs.declared.cycle.Cycle.{Cycle}
use Rattle.field_cycle.specs.declared.spans.Spans.{Spans}
use Rattle.field_cycle.specs.declared.station.Standing.{Standing}
use Rattle.field_cycle.specs.declared.station.Standing.TheVariants as standings
use Rattle.field_cycle.specs.declared.station.Station.{Station}
use Rattle.field_cycle.specs.declared.link.Tally.{Tally}
use Rattle.field_page.specs.declared.reading.Party.{Party}
use Rattle.field_page.specs.declared.reading.Shown.{Shown}
use Rattle.field_page.specs.declared.reading.State.{State}
use Rattle.field_page.specs.declared.reading.State.TheVariants as states

abbrev pub is_lost : Standing → Bool
is_lost standings.Lost = true
is_lost _ = false

abbrev pub state_by : Standing → State
state_by standings.Unknown = states.Unknown
state_by standings.Answers = states.Answers
state_by standings.Lost = states.Lost

-- a device without outputs isn't asked while the controller is lost
abbrev pub state_of : Bool → Station → State
state_of is_controller_lost station =
    if is_controller_lost && not station.has_outputs then states.Left else state_by station.standing

-- what shows of the controller: how it stands, and what was counted of its connection
pub record IsOfController (controller : Controller) (party : Party) : Type 0 where
  pub state : party.state ≡ state_by controller.standing
  pub tally : party.tally ≡ controller.link.tally

-- a device's name, how it stands, what was counted of its connection, whether it has outputs, and the times of its
-- rounds
abbrev pub shown : Shown → List ℕ × (State × (Tally × (Bool × Spans)))
shown device =
    (device.party.name.items, (device.party.state, (device.party.tally, (device.has_outputs, device.spans))))

abbrev pub device_of : Bool → Station → List ℕ × (State × (Tally × (Bool × Spans)))
device_of is_controller_lost station = (
  string_bytes station.device.name,
  (state_of is_controller_lost station, (station.link.tally, (station.has_outputs, station.spans))),
)

-- what shows of the devices, in their order
abbrev pub shown_of : Cycle → List (List ℕ × (State × (Tally × (Bool × Spans))))
shown_of cycle = map (device_of (is_lost cycle.controller.standing)) cycle.stations.items
