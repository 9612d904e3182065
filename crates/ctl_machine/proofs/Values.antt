-- The values of all variables, of those without a location and the first values.
use Rattle.std.proofs.Common.{◌≡◌, cond, Bool, true, false, List, [], ◌∷◌, ◌++◌, take, drop, map, refl, sym, ap, ◌∙◌}
use Rattle.std.specs.Prelude.{filter}
use Rattle.std.specs.List.{items_where_true}
use Rattle.il_values.specs.declared.value.Value.{Value}
use Rattle.il_model.specs.declared.program.Variable.{Variable}
use Rattle.il_values.specs.Values.{ty_of}
use Rattle.il_model.specs.Row.{same_type}
use Rattle.il_model.proofs.RowTypes.{and_yes, same_type_is}
use Rattle.ctl_model.specs.State.{has_own}
use Rattle.ctl_model.specs.Suits.{KeepFirsts}
use Rattle.ctl_model.specs.Snapshots.{own_values, own_types, are_types}
use Rattle.ctl_model.proofs.OwnValues.{both_same, own_before, first_before}
use Rattle.ctl_machine.specs.Kept.{all_values}

head_same : {A : Type 0} (a b : A) (xs ys : List A) → a ∷ xs ≡ b ∷ ys → a ≡ b
head_same a b xs ys e = cc

tail_same : {A : Type 0} (a b : A) (xs ys : List A) → a ∷ xs ≡ b ∷ ys → xs ≡ ys
tail_same a b xs ys e = cc

-- each first value is of its variable's type
abbrev pub AreTyped : List Variable → Type 0
AreTyped vs = map ty_of (map (λ (v : Variable). v.initial) vs) ≡ map (λ (v : Variable). v.ty) vs

-- these are values of all variables, those without a location have these ones, and all are of their types
pub record AreAll (vs : List Variable) (own all : List Value) : Type 0 where
  pub are_own : own_values vs all ≡ own
  pub types : AreTyped vs → map ty_of all ≡ map (λ v. v.ty) vs
  pub firsts : KeepFirsts vs all

all_by : (b : Bool) (x : Variable) (xs : List Variable) (own : List Value) → has_own x ≡ b
    → ((more : List Value) → are_types more (own_types xs) ≡ true → AreAll xs more (all_values xs more))
    → are_types own (map (λ (v : Variable). v.ty) (cond b (x ∷ filter has_own xs) (filter has_own xs))) ≡ true
    → AreAll (x ∷ xs) own (cond b (take 1 own ++ all_values xs (drop 1 own)) (x.initial ∷ all_values xs own))
all_by true x xs [] e more h = absurd cc
all_by true x xs (v ∷ own) e more h =
    let p = and_yes (same_type (ty_of v) x.ty) (are_types own (own_types xs)) h in
    let m = more own p.1 in
    record {
      are_own = ap (λ b. items_where_true (b ∷ map has_own xs) (v ∷ all_values xs own)) e ∙ ap (λ (vs : List Value). v ∷ vs) m.are_own;
      types = λ t. both_same _ _ _ _ (same_type_is (ty_of v) x.ty p.0) (m.types (tail_same _ _ _ _ t));
      firsts = own_before x v xs (all_values xs own) e m.firsts;
    }
all_by false x xs own e more h =
    let m = more own h in
    record {
      are_own = ap (λ b. items_where_true (b ∷ map has_own xs) (x.initial ∷ all_values xs own)) e ∙ m.are_own;
      types = λ t. both_same _ _ _ _ (head_same _ _ _ _ t) (m.types (tail_same _ _ _ _ t));
      firsts = first_before x xs (all_values xs own) m.firsts;
    }

pub are_all : (vs : List Variable) (own : List Value) → are_types own (own_types vs) ≡ true → AreAll vs own (all_values vs own)
are_all [] [] h = record { are_own = refl; types = λ t. refl; firsts = λ i v at none. absurd cc }
are_all [] (v ∷ own) h = absurd cc
are_all (x ∷ xs) own h = all_by (has_own x) x xs own refl (are_all xs) h

-- all values made of those of a snapshot have these
pub own_restored : (vs : List Variable) (own all : List Value) → all ≡ all_values vs own → are_types own (own_types vs) ≡ true → own ≡ own_values vs all
own_restored vs own all e h = sym ((are_all vs own h).are_own) ∙ ap (own_values vs) (sym e)

pub none_own : (vs : List Variable) → own_values vs [] ≡ []
none_own [] = refl
none_own (x ∷ xs) = refl
