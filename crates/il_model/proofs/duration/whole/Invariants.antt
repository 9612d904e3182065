use Rattle.std.proofs.Common.{ℕ, ◌≤◌, ◌*◌, length}
use Rattle.il_model.specs.Literals.{digit_list}
use Rattle.il_model.proofs.Decimals.{IsFraction, Leads, upto}
use Rattle.il_model.proofs.duration.whole.Given as goal

abbrev pub invariant-loop-k : goal.invariant-loop-k
invariant-loop-k l = record {
  within : l.k ≤ length l.decimals;
  small : l.ms ≤ 11 * l.unit;
  leads : (m : ℕ) → Leads l.unit l.ms (upto l.k l.decimals) m → IsFraction l.unit (digit_list l.decimals) m;
  follows : (m : ℕ) → IsFraction l.unit (digit_list l.decimals) m → Leads l.unit l.ms (upto l.k l.decimals) m;
}

abbrev pub decreases-loop-k : goal.decreases-loop-k
decreases-loop-k l = l.k
