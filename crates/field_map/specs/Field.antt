-- The places of %I that the devices of a field fill.
use Rattle.std.specs.Prelude.{List, [], ◌∷◌, ◌++◌, map, Option, Some, None}
use Rattle.field_map.specs.declared.places.Places.{Places}
use Rattle.field_map.specs.declared.reading.Reading.{Reading}
use Rattle.field_map.specs.declared.device.Device.{Device}

abbrev pub places_read : List Reading → List Places
places_read readings = map (λ r. r.places) readings

-- those of a bit or a word, if there is one
abbrev pub places_alive : Option Places → List Places
places_alive None = []
places_alive (Some p) = p ∷ []

-- those of its readings, and its alive bit
abbrev pub filled_by : Device → List Places
filled_by d = places_read d.inputs.readings.items ++ places_alive d.alive

-- those that the field itself fills: the word that its cycles count up, and the bit that says that inputs are real
abbrev pub own_places : Option Places → Option Places → List Places
own_places beat ready = places_alive beat ++ places_alive ready
