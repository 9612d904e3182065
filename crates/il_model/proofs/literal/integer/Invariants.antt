use Rattle.std.proofs.Common.{◌≡◌, ◌≤◌, min, drop}
use Rattle.std.specs.Prelude.{option_map}
use Rattle.il_model.specs.Literals.{integer_of, integer_behind}
use Rattle.il_model.proofs.literal.integer.Given as goal

abbrev pub invariant-loop-b : goal.invariant-loop-b
invariant-loop-b l = record {
  held : l.value ≤ 18446744073709551615;
  same : option_map (λ n. min n 18446744073709551615) (integer_behind l.base l.behind l.value (drop l.b-index l.bytes)) ≡ option_map (λ n. min n 18446744073709551615) (integer_of l.base l.bytes);
}
