-- Tables that tell at once what lists tell by search: what names stand for, the constants, which locations are taken.
use Rattle.std.specs.Prelude.{◌≡◌, ℕ, List, Option, ℤ}
use Rattle.std.specs.BTreeMap.{BTreeMap}
use Rattle.std.specs.BTreeMap as tree
use Rattle.std.specs.Cmp.Lexicographic.{slice_cmp}
use Rattle.std.specs.Ordering.{nat_cmp, int_cmp, ordering_then}
use Rattle.std.specs.List.{position}
use Rattle.std.specs.declared.cmp.Ordering.{Ordering}
use Rattle.std.specs.BTreeSet.{BTreeSet}
use Rattle.std.specs.BTreeSet as sorted
use denote.Ref.{Bor}
use Rattle.il_values.specs.declared.value.Value.{Value}
use Rattle.il_model.specs.declared.program.Variable.{Variable}
use Rattle.il_model.specs.Program.{Program}
use Rattle.il_model.specs.Resolved.{variable_number, instance_number, target_of}
use Rattle.il_values.specs.Values.{ty_of, number_of}
use Rattle.il_model.specs.Constants.{same_value}
use Rattle.il_model.specs.Image.{type_code}
use Rattle.il_model.specs.Codes.{is_taken}

-- ---- the first variable, the first instance and the first instruction of each name

-- what a table has for a name
abbrev pub first_in : BTreeMap (Bor (List ℕ)) ℕ → List ℕ → Option ℕ
first_in m name = tree.get_by (λ k. slice_cmp nat_cmp name k.now) m

pub record AreNameTables (Q : Program) (declared called labelled : BTreeMap (Bor (List ℕ)) ℕ) : Type 0 where
  pub variables : (name : List ℕ) → first_in declared name ≡ variable_number Q name
  pub instances : (name : List ℕ) → first_in called name ≡ instance_number Q name
  pub labels : (name : List ℕ) → first_in labelled name ≡ target_of Q name

-- ---- the number of each constant

-- the constants of a program
abbrev pub ConstantList : Type 0
ConstantList = List Value

-- a value is told by its type and its number
abbrev pub key_of : Value → ℕ × ℤ
key_of v = (type_code (ty_of v), number_of v)

abbrev pub key_cmp : ℕ × ℤ → ℕ × ℤ → Ordering
key_cmp x y = ordering_then (nat_cmp x.0 y.0) (int_cmp x.1 y.1)

-- what a table has for a value
abbrev pub place_in : BTreeMap (ℕ × ℤ) ℕ → Value → Option ℕ
place_in m v = tree.get key_cmp m (key_of v)

abbrev pub IsConstantTable : List Value → BTreeMap (ℕ × ℤ) ℕ → Type 0
IsConstantTable found m = (v : Value) → place_in m v ≡ position (same_value v) found

-- ---- at which codes variables lie

abbrev pub AreCodes : List Variable → BTreeSet ℕ → Type 0
AreCodes seen s = (n : ℕ) → sorted.contains nat_cmp s n ≡ is_taken seen n
