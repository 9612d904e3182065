use Rattle.std.proofs.Common.{◌≡◌, ◌++◌, [], suc, map, take, drop, length}
use Rattle.il_units.specs.Words.{placed_entry, placing}
use Rattle.il_units.proofs.flat.push_under.Given as goal

abbrev pub invariant-loop-e : goal.invariant-loop-e
invariant-loop-e l = l.found.items ≡ l.fn.found.items ++ map (placed_entry (placing l.at) l.m.retained) (take l.e-index l.e-items)
