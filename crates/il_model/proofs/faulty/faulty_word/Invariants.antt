use Rattle.std.proofs.Common.{◌≡◌, ◌≤◌, Ok}
use Rattle.il_model.specs.Checking.{shape_at}
use Rattle.il_model.proofs.faulty.faulty_word.Given as goal

abbrev pub invariant-loop-k : goal.invariant-loop-k
invariant-loop-k l = record {
  before : l.k ≤ l.n;
  arrived : shape_at l.program l.k ≡ Ok l.types;
}
