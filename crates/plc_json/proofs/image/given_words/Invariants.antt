use Rattle.std.proofs.Common.{◌≡◌, ℕ, ℤ, pos, List, true, false, length, get_or, drop, map}
use Rattle.serde_json.specs.View.{view}
use Rattle.plc_json.specs.Commands.{all_of, is_in, are_once, value_of, numbers_of, numbered_word}
use Rattle.plc_json.proofs.Each.{behind}
use Rattle.plc_json.proofs.image.given_words.Given as goal

abbrev pub invariant-loop-pair : goal.invariant-loop-pair
invariant-loop-pair l = record {
  told : List (ℕ × ℤ);
  whole : behind numbered_word told (drop l.pair-index (map view l.pairs)) ≡ all_of numbered_word (map view l.pairs);
  once : are_once 64 (numbers_of told) ≡ true;
  marks : (k : ℕ) → get_or l.given k false ≡ is_in k (numbers_of told);
  values : (k : ℕ) → get_or l.words k (pos 0) ≡ value_of k told;
  all_given : length l.given ≡ 64;
  all_words : length l.words ≡ 64;
}
