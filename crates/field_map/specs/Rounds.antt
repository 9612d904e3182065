-- What a device is asked in a round, and what is handed over of it.
use Rattle.std.specs.Prelude.{ℕ, ◌+◌, ◌-◌, ◌==◌, ◌&&◌, Bool, true, false, nat_lt, if◌then◌else◌, length, slice_get}
use Rattle.std.specs.Prelude.{Option, Some, None, option_map, option_and_then, is_some}
use Rattle.il_model.specs.declared.cells.Cells.{Cells}
use Rattle.il_model.specs.Locations.{clear_cells}
use Rattle.io_image.specs.Book.{Change}
use Rattle.modbus_wire.specs.declared.request.Request.{Request}
use Rattle.modbus_wire.specs.declared.reply.Reply.{Reply}
use Rattle.modbus_wire.specs.declared.reply.Reply.TheVariants.{Done}
use Rattle.field_map.specs.declared.places.Places.{Places}
use Rattle.field_map.specs.declared.reading.Fallback.{Fallback}
use Rattle.field_map.specs.declared.reading.Fallback.TheVariants.{Hold, Zero}
use Rattle.field_map.specs.declared.reading.Outputs.{Outputs}
use Rattle.field_map.specs.declared.device.Device.{Device}
use Rattle.field_map.specs.Asking.{all_cells, joined, read_request, output_request, write_request, shown_by}

-- how many writings and readings a device has
abbrev pub steps_of : Device → ℕ
steps_of d = length d.writings.items + length d.inputs.readings.items

-- the request of a step of a round, for these outputs: first the writings, then the readings
abbrev pub asked_at : Device → ℕ → Outputs → Option Request
asked_at d step outputs =
    if nat_lt step (length d.writings.items)
    then option_and_then (λ w. output_request w outputs) (slice_get d.writings.items step)
    else option_map read_request (slice_get d.inputs.readings.items (step - length d.writings.items))

abbrev pub joined_some : Option Request → Option Request → Option Request
joined_some (Some write) (Some read) = joined write read
joined_some _ _ = None

-- one request for the last writing and the first reading, where the device is asked so
abbrev pub both_at : Device → ℕ → Outputs → Option Request
both_at d step outputs =
    if d.exchange && (step + 1 == length d.writings.items)
    then joined_some (asked_at d step outputs) (asked_at d (step + 1) outputs)
    else None

-- what the reply to the request of a step shows of inputs
abbrev pub taken_at : Device → ℕ → Reply → Option Change
taken_at d step reply =
    if nat_lt step (length d.writings.items) then None
    else option_and_then (λ r. shown_by r reply) (slice_get d.inputs.readings.items (step - length d.writings.items))

abbrev pub is_done : Reply → Bool
is_done Done = true
is_done _ = false

-- it's a reply to the request of a step
abbrev pub is_taken_at : Device → ℕ → Reply → Bool
is_taken_at d step reply =
    if nat_lt step (length d.writings.items) then is_done reply else is_some (taken_at d step reply)

-- the cells that inputs are handed over from: those gathered, or FALSE and 0 where the device is lost, or none
abbrev pub handed_cells : Fallback → Option Cells → Option Cells
handed_cells fallback (Some gathered) = Some gathered
handed_cells Zero None = Some clear_cells
handed_cells Hold None = None

abbrev pub handed_from : Option Places → Option Cells → Option Request
handed_from (Some p) (Some cells) = Some (write_request p.from p cells)
handed_from _ _ = None

-- the request that hands the inputs of a device over, whole
abbrev pub handed_inputs : Device → Option Cells → Option Request
handed_inputs d gathered = handed_from d.inputs.places (handed_cells d.on_loss gathered)

-- the request that says whether it answers
abbrev pub handed_alive : Device → Bool → Option Request
handed_alive d answers = handed_from d.alive (Some (all_cells answers))
