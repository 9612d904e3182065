use Rattle.std.proofs.Common.{◌≡◌, map, take}
use Rattle.il_reader.specs.Grammar.{line}
use Rattle.il_places.specs.Places.{plain_origin}
use Rattle.il_places.proofs.places.plain_origins.Given as goal

abbrev pub invariant-loop-written : goal.invariant-loop-written
invariant-loop-written l = l.found.items ≡ map plain_origin (map line (take l.written-index l.written-items))
