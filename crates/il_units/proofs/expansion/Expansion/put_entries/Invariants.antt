use Rattle.std.proofs.Common.{◌≡◌, take}
use Rattle.std.specs.List.{flat_map}
use Rattle.il_units.specs.Expansion.{with_pieces, kept_pieces}
use Rattle.il_units.proofs.expansion.Expansion.put_entries.Given as goal

abbrev pub invariant-loop-e : goal.invariant-loop-e
invariant-loop-e l = l.out ≡ with_pieces l.fn.self (flat_map (kept_pieces l.retained) (take l.e-index l.entries))
