use Rattle.std.proofs.Common.{◌≡◌, ◌++◌, [], suc, map, take, drop, length}
use Rattle.il_units.specs.Expansion.{origin_in}
use Rattle.il_units.proofs.expansion.Expansion.origin.Given as goal

abbrev pub invariant-loop-origin : goal.invariant-loop-origin
invariant-loop-origin l = origin_in (drop l.origin-index l.origin-items) l.before ≡ origin_in l.origin-items l.n
