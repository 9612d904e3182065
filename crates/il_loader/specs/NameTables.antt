-- Tables that tell the numbers of variables, instances and labels, and the name at each address.
use Rattle.std.specs.Prelude.{◌≡◌, ℕ, Bool, List, Option, option_map}
use Rattle.std.specs.List.{position}
use Rattle.std.specs.BTreeMap.{BTreeMap}
use Rattle.std.specs.BTreeMap as tree
use Rattle.std.specs.BTreeSet.{BTreeSet}
use Rattle.std.specs.Ordering.{nat_cmp}
use denote.Ref.{Bor}
use Rattle.il_model.specs.declared.program.Variable.{Variable}
use Rattle.il_model.specs.declared.program.Instance.{Instance}
use Rattle.il_model.specs.Words.{same_name}
use Rattle.il_model.specs.Tables.{first_in, AreCodes}
use Rattle.il_model.specs.Resolved.{instance_in}
use Rattle.il_model.specs.Marks.{Mark}
use Rattle.il_model.specs.Codes.{label_there}

-- ---- variables, and the codes of their locations

-- the variables of an image
abbrev pub VariableList : Type 0
VariableList = List Variable

abbrev pub is_named : List ℕ → Variable → Bool
is_named name v = same_name v.name name

abbrev pub AreNumbered : List Variable → BTreeMap (Bor (List ℕ)) ℕ → Type 0
AreNumbered seen m = (name : List ℕ) → first_in m name ≡ position (is_named name) seen

pub record AreVariableTables (seen : List Variable) (numbered : BTreeMap (Bor (List ℕ)) ℕ)
    (placed : BTreeSet ℕ) : Type 0 where
  pub numbers : AreNumbered seen numbered
  pub codes : AreCodes seen placed

-- ---- instances

-- the instances of an image
abbrev pub InstanceList : Type 0
InstanceList = List Instance

abbrev pub is_instance : List ℕ → Instance → Bool
is_instance name x = same_name x.name name

abbrev pub AreInstanceNumbers : List Instance → BTreeMap (Bor (List ℕ)) ℕ → Type 0
AreInstanceNumbers seen m = (name : List ℕ) → first_in m name ≡ instance_in seen name

-- ---- labels

-- the labels of an image
abbrev pub Marks : Type 0
Marks = List Mark

abbrev pub is_called : List ℕ → Mark → Bool
is_called name m = same_name m.name name

abbrev pub AreNumbers : List Mark → BTreeMap (Bor (List ℕ)) ℕ → Type 0
AreNumbers seen m = (name : List ℕ) → first_in m name ≡ position (is_called name) seen

-- what a table has for an address
abbrev pub name_in : BTreeMap ℕ (Bor (List ℕ)) → ℕ → Option (List ℕ)
name_in m n = option_map (λ (name : Bor (List ℕ)). name.now) (tree.get nat_cmp m n)

abbrev pub AreNames : List Mark → BTreeMap ℕ (Bor (List ℕ)) → Type 0
AreNames seen m = (n : ℕ) → name_in m n ≡ label_there seen n

pub record AreLabelTables (seen : List Mark) (numbered : BTreeMap (Bor (List ℕ)) ℕ)
    (placed : BTreeMap ℕ (Bor (List ℕ))) : Type 0 where
  pub numbers : AreNumbers seen numbered
  pub names : AreNames seen placed
