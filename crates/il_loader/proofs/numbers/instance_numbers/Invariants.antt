use Rattle.std.proofs.Common.{◌≡◌, ◌≤◌, ℕ, List, length, drop}
use Rattle.il_model.specs.declared.program.Instance.{Instance}
use Rattle.il_model.specs.Words.{same_name}
use Rattle.il_model.proofs.Indexing.{first_where}
use Rattle.il_loader.specs.Linked.{number_in}
use Rattle.il_loader.proofs.numbers.instance_numbers.Given as goal

abbrev pub invariant-loop-n : goal.invariant-loop-n
invariant-loop-n l = record { within : l.n ≤ length l.instances; found : (name : List ℕ) → number_in l.found name ≡ first_where (λ (v : Instance). same_name v.name name) l.n (drop l.n l.instances) }

abbrev pub decreases-loop-n : goal.decreases-loop-n
decreases-loop-n l = l.n
