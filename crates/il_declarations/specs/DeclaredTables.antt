-- Tables that tell which names variables and instances have, and the codes of the variables' locations.
use Rattle.std.specs.Prelude.{◌≡◌, ℕ, List, Bool, true, is_some, if◌then◌else◌, Vec}
use Rattle.std.specs.BTreeSet as sorted
use Rattle.std.specs.BTreeSet.{BTreeSet}
use Rattle.std.specs.Cmp.Lexicographic.{slice_cmp}
use Rattle.std.specs.Ordering.{nat_cmp}
use Rattle.std.specs.Global.{Global}
use Rattle.il_model.specs.declared.program.Variable.{Variable}
use Rattle.il_model.specs.declared.program.Instance.{Instance}
use Rattle.il_model.specs.Words.{same_name}
use Rattle.il_model.specs.Resolved.{instance_in}
use Rattle.il_model.specs.Codes.{is_number}
use Rattle.il_model.specs.Tables.{AreCodes}

-- whether a table has a name
abbrev pub is_in : BTreeSet (Vec ℕ Global) → List ℕ → Bool
is_in names name = sorted.contains_by (λ k. slice_cmp nat_cmp name k.items) names

-- a table has one name more
abbrev pub AddsName : BTreeSet (Vec ℕ Global) → BTreeSet (Vec ℕ Global) → List ℕ → Type 0
AddsName old new name = (other : List ℕ) → is_in new other ≡ (if same_name name other then true else is_in old other)

pub record AreDeclaredTables (vs : List Variable) (xs : List Instance)
    (variable_names instance_names : BTreeSet (Vec ℕ Global)) (placed : BTreeSet ℕ) : Type 0 where
  pub variables : (name : List ℕ) → is_in variable_names name ≡ is_some (is_number vs name)
  pub instances : (name : List ℕ) → is_in instance_names name ≡ is_some (instance_in xs name)
  pub codes : AreCodes vs placed
