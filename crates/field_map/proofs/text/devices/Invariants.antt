use Rattle.std.proofs.Common.{◌≡◌, ◌++◌}
use Rattle.std.specs.List.{flat_map}
use Rattle.field_map.specs.Field.{filled_by}
use Rattle.field_map.proofs.text.devices.Given as goal

abbrev pub invariant-loop-index : goal.invariant-loop-index
invariant-loop-index l = l.filled.places.items ≡ l.fn.filled.places.items ++ flat_map filled_by l.devices.items
