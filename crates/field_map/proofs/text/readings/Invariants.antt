use Rattle.std.proofs.Common.{◌≡◌, ◌++◌}
use Rattle.field_map.specs.Field.{places_read}
use Rattle.field_map.proofs.text.readings.Given as goal

abbrev pub invariant-loop-index : goal.invariant-loop-index
invariant-loop-index l = l.filled.places.items ≡ l.fn.filled.places.items ++ places_read l.inputs.readings.items
