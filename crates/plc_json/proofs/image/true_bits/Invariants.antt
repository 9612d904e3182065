use Rattle.std.proofs.Common.{◌≡◌, ℕ, List, true, false, length, get_or, drop, map}
use Rattle.serde_json.specs.View.{view}
use Rattle.plc_json.specs.Commands.{all_of, is_in, are_once, number_at}
use Rattle.plc_json.proofs.Each.{behind}
use Rattle.plc_json.proofs.image.true_bits.Given as goal

abbrev pub invariant-loop-number : goal.invariant-loop-number
invariant-loop-number l = record {
  told : List ℕ;
  whole : behind number_at told (drop l.number-index (map view l.numbers)) ≡ all_of number_at (map view l.numbers);
  once : are_once 512 told ≡ true;
  each : (k : ℕ) → get_or l.bits k false ≡ is_in k told;
  full : length l.bits ≡ 512;
}
