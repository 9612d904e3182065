use Rattle.std.proofs.Common.{◌≡◌, ◌≤◌, ℕ, List, length, drop}
use Rattle.il_model.specs.Resolved.{has_label}
use Rattle.il_model.specs.Tables.{first_in}
use Rattle.il_model.proofs.Indexing.{first_where}
use Rattle.il_model.proofs.indexed.labels.Given as goal

abbrev pub invariant-loop-n : goal.invariant-loop-n
invariant-loop-n l = record { within : l.n ≤ length l.code; found : (name : List ℕ) → first_in l.found name ≡ first_where (has_label name) l.n (drop l.n l.code) }

abbrev pub decreases-loop-n : goal.decreases-loop-n
decreases-loop-n l = l.n
