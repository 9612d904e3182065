use Rattle.std.proofs.Common.{◌≡◌, ◌++◌, map, take, false}
use Rattle.il_units.specs.Words.{placed_entry, placing}
use Rattle.il_units.proofs.calls.push_variables.Given as goal

abbrev pub invariant-loop-e : goal.invariant-loop-e
invariant-loop-e l = l.found.items ≡ l.fn.found.items ++ map (placed_entry (placing l.at) false) (take l.e-index l.e-items)
