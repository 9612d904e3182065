use Rattle.std.proofs.Common.{◌≡◌, ◌++◌, [], suc, map, take, drop, length}
use Rattle.il_units.specs.Words.{moved_entry}
use Rattle.il_units.proofs.flat.moved_shared.Given as goal

abbrev pub invariant-loop-e : goal.invariant-loop-e
invariant-loop-e l = l.found.items ≡ map (moved_entry l.left) (take l.e-index l.e-items)
