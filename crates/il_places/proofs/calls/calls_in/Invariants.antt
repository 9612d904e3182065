use Rattle.std.proofs.Common.{◌≡◌, ◌++◌, ◌+◌, map, drop}
use Rattle.il_units.specs.Units.{line_text}
use Rattle.il_places.specs.Origins.{calls_from}
use Rattle.il_places.proofs.calls.calls_in.Given as goal

abbrev pub invariant-loop-i : goal.invariant-loop-i
invariant-loop-i l = l.found.items ++ calls_from l.flat.members (l.i + 1) (map line_text (drop l.i l.lines)) ≡ calls_from l.flat.members 1 (map line_text l.lines)
