-- A round of a device.
use Rattle.std.specs.Prelude.{◌≡◌, ℕ, ◌+◌, ◌^◌, ◌<◌, ◌≤◌, ◌⊎◌, if◌then◌else◌, List, [], ◌∷◌, length, Option, Some, None, IsSome}
use Rattle.il_model.specs.declared.cells.Cells.{Cells}
use Rattle.il_model.specs.Locations.{clear_cells}
use Rattle.modbus_wire.specs.declared.reply.Reply.{Reply}
use Rattle.field_map.specs.declared.reading.Outputs.{Outputs}
use Rattle.field_map.specs.declared.device.Device.{Device}
use Rattle.field_map.specs.Asking.{after_some}
use Rattle.field_map.specs.Carried.{gathered_of, AreShown}
use Rattle.field_map.specs.Rounds.{steps_of, asked_at, both_at, taken_at, is_taken_at}
use Rattle.modbus_wire.specs.declared.request.Request.{Request}
use Rattle.field_cycle.specs.declared.round.Round.{Round}
use Rattle.field_cycle.specs.Links.{later}

-- none are known, and nothing is known of what was written
abbrev pub no_outputs : Outputs
no_outputs = record { known = None; written = None }

-- nothing is written yet, and nothing read
abbrev pub begun : Outputs → Round
begun outputs = record { outputs = outputs; step = 0; gathered = clear_cells }

-- it begins with the readings, so nothing is written
abbrev pub only_reading : Device → Round
only_reading d = record { outputs = no_outputs; step = length d.writings.items; gathered = clear_cells }

-- the request of a step, or of the step before and this one
abbrev pub Asks : Device → Outputs → ℕ → Request → Type 0
Asks d outputs step request = (asked_at d step outputs ≡ Some request)
    ⊎ ((before : ℕ) × (before + 1 ≡ step) × (both_at d before outputs ≡ Some request))

-- the same step, or the next one, where both are asked by one request
abbrev pub Reaches : Device → Outputs → ℕ → ℕ → Type 0
Reaches d outputs step to = (to ≡ step) ⊎ ((to ≡ step + 1) × IsSome (both_at d step outputs))

-- the step is asked nothing, or is asked with the one behind it
abbrev pub IsPassed : Device → Outputs → ℕ → Type 0
IsPassed d outputs step = (asked_at d step outputs ≡ None) ⊎ IsSome (both_at d step outputs)

-- none but such steps stand from one step on before another
pub record ArePassed (d : Device) (outputs : Outputs) (from to : ℕ) : Type 0 where
  pub passed : (k : ℕ) → from ≤ k → k < to → IsPassed d outputs k

-- only such steps are passed over
pub record Advances (d : Device) (before after : Round) : Type 0 where
  pub outputs : after.outputs ≡ before.outputs
  pub gathered : after.gathered ≡ before.gathered
  pub passed : ArePassed d before.outputs before.step after.step

-- what the reply shows is laid over what was gathered, and the next step comes
abbrev pub next_step : Device → Round → Reply → Round
next_step d r reply =
    record { outputs = r.outputs; step = later r.step 1; gathered = after_some r.gathered (taken_at d r.step reply) }

-- the round after a reply, which changes nothing where it's none to its step
abbrev pub taken : Device → Round → Reply → Round
taken d r reply = if is_taken_at d r.step reply then next_step d r reply else r

-- the round once these replies were taken, one after the other
abbrev pub taken_all : Device → Round → List Reply → Round
taken_all d r [] = r
taken_all d r (reply ∷ replies) = taken_all d (taken d r reply) replies

-- A round whose writings are done takes a reply to each reading that shows its cells, and then it's whole, and has gathered
-- what they show.
abbrev pub IsEachRoundGathered : Type 0
IsEachRoundGathered = (d : Device) (r : Round) (replies : List Reply) → steps_of d < 2 ^ 64
    → r.step ≡ length d.writings.items → AreShown d.inputs.readings.items replies
    → ((taken_all d r replies).gathered ≡ gathered_of d.inputs.readings.items replies r.gathered)
    × ((taken_all d r replies).step ≡ steps_of d)
