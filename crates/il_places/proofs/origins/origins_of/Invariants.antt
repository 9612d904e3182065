use Rattle.std.proofs.Common.{◌≡◌, [], drop}
use Rattle.il_places.specs.Origins.{origins_from}
use Rattle.il_places.proofs.origins.origins_of.Given as goal

abbrev pub invariant-loop-n : goal.invariant-loop-n
invariant-loop-n l = origins_from l.traces l.calls l.found.items (drop l.n l.flat.lines) ≡ origins_from l.traces l.calls [] l.flat.lines
