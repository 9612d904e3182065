use Rattle.std.proofs.Common.{◌≡◌, ◌*◌, ◌++◌, length, drop}
use Rattle.field_map.specs.Layouts.{swapped}
use Rattle.field_map.proofs.layout.swapped.Given as goal

abbrev pub invariant-loop-pair : goal.invariant-loop-pair
invariant-loop-pair l = record {
  items : l.values.items ++ swapped (drop (2 * l.pair) l.words) ≡ swapped l.words;
  many : length l.values.items ≡ 2 * l.pair;
}
