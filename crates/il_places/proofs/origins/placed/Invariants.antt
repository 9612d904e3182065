use Rattle.std.proofs.Common.{◌≡◌, map, take}
use Rattle.il_places.specs.Origins.{in_instance}
use Rattle.il_places.proofs.origins.placed.Given as goal

abbrev pub invariant-loop-origin : goal.invariant-loop-origin
invariant-loop-origin l = l.found.items ≡ map (in_instance l.front) (take l.origin-index l.origins)
