use Rattle.std.proofs.Common.{◌≡◌, ◌++◌, [], suc, map, take, drop, length}
use Rattle.il_units.specs.Flats.{with_shared}
use Rattle.il_units.proofs.flat.put_shared.Given as goal

abbrev pub invariant-loop-e : goal.invariant-loop-e
invariant-loop-e l = l.known.items ≡ with_shared l.fn.known.items l.yielded
