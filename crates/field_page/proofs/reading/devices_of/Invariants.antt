use Rattle.std.proofs.Common.{◌≡◌, take, map}
use Rattle.field_page.specs.Readings.{device_of, shown}
use Rattle.field_page.proofs.reading.devices_of.Given as goal

abbrev pub invariant-loop-station : goal.invariant-loop-station
invariant-loop-station l = map shown l.devices.items ≡ map (device_of l.is_controller_lost) (take l.station-index l.stations)
