-- The values of the variables without a location, which with the first values are the values of all.
use Rattle.std.proofs.Common.{◌≡◌, zero, suc, Bool, true, false, List, [], ◌∷◌, map, Some, refl, sym, ap, ◌∙◌}
use Rattle.std.specs.Prelude.{cond, filter}
use Rattle.std.specs.List.{items_where_true}
use Rattle.il_values.specs.declared.value.Value.{Value}
use Rattle.il_model.specs.declared.program.Variable.{Variable}
use Rattle.il_values.specs.Values.{ty_of}
use Rattle.ctl_model.specs.State.{has_own}
use Rattle.ctl_model.specs.Suits.{KeepFirsts}
use Rattle.ctl_model.specs.Snapshots.{own_values, own_types}

pub some_same : {A : Type 0} (a b : A) → Some a ≡ Some b → a ≡ b
some_same a b e = cc

pub head_same : {A : Type 0} (a b : A) (xs ys : List A) → a ∷ xs ≡ b ∷ ys → a ≡ b
head_same a b xs ys e = cc

pub tail_same : {A : Type 0} (a b : A) (xs ys : List A) → a ∷ xs ≡ b ∷ ys → xs ≡ ys
tail_same a b xs ys e = cc

pub both_same : {A : Type 0} (a b : A) (xs ys : List A) → a ≡ b → xs ≡ ys → a ∷ xs ≡ b ∷ ys
both_same a b xs ys e f = cc

-- ---- their types

typed_by : (b : Bool) (x : Variable) (v : Value) (xs : List Variable) (own : List Value) → ty_of v ≡ x.ty → map ty_of (own_values xs own) ≡ own_types xs
    → map ty_of (items_where_true (b ∷ map has_own xs) (v ∷ own)) ≡ map (λ (v : Variable). v.ty) (cond b (x ∷ filter has_own xs) (filter has_own xs))
typed_by true x v xs own e f = both_same _ _ _ _ e f
typed_by false x v xs own e f = f

pub own_typed : (xs : List Variable) (own : List Value) → map ty_of own ≡ map (λ v. v.ty) xs → map ty_of (own_values xs own) ≡ own_types xs
own_typed [] own e = refl
own_typed (x ∷ xs) [] e = absurd cc
own_typed (x ∷ xs) (v ∷ own) e = typed_by (has_own x) x v xs own (head_same _ _ _ _ e) (own_typed xs own (tail_same _ _ _ _ e))

-- ---- they tell all values

same_by : (b : Bool) (x : Variable) (v w : Value) (xs : List Variable) (a c : List Value) → (b ≡ false → v ≡ w) → (own_values xs a ≡ own_values xs c → a ≡ c)
    → items_where_true (b ∷ map has_own xs) (v ∷ a) ≡ items_where_true (b ∷ map has_own xs) (w ∷ c) → v ∷ a ≡ w ∷ c
same_by true x v w xs a c first more e = both_same _ _ _ _ (head_same _ _ _ _ e) (more (tail_same _ _ _ _ e))
same_by false x v w xs a c first more e = both_same _ _ _ _ (first refl) (more e)

pub own_same : (xs : List Variable) (a c : List Value) → map ty_of a ≡ map (λ v. v.ty) xs → map ty_of c ≡ map (λ v. v.ty) xs → KeepFirsts xs a → KeepFirsts xs c → own_values xs a ≡ own_values xs c → a ≡ c
own_same [] [] [] e f h k same = refl
own_same [] [] (w ∷ c) e f h k same = absurd cc
own_same [] (v ∷ a) c e f h k same = absurd cc
own_same (x ∷ xs) [] c e f h k same = absurd cc
own_same (x ∷ xs) (v ∷ a) [] e f h k same = absurd cc
own_same (x ∷ xs) (v ∷ a) (w ∷ c) e f h k same =
    same_by (has_own x) x v w xs a c (λ none. some_same v w (h 0 x refl none ∙ sym (k 0 x refl none)))
    (own_same xs a c (tail_same _ _ _ _ e) (tail_same _ _ _ _ f) (λ i y at none. h (suc i) y at none) (λ i y at none. k (suc i) y at none)) same

-- ---- first values in a list of all

own_first : (v w : Variable) → has_own v ≡ true → Some v ≡ Some w → has_own w ≡ false → ⊥
own_first v w own is none = let same : v ≡ w = cc in let e = ap has_own same in cc

-- before them a value of a variable of its own
pub own_before : (x : Variable) (v : Value) (xs : List Variable) (all : List Value) → has_own x ≡ true → KeepFirsts xs all → KeepFirsts (x ∷ xs) (v ∷ all)
own_before x v xs all own keep zero w at none = absurd (own_first x w own at none)
own_before x v xs all own keep (suc i) w at none = keep i w at none

-- before them the first value of a variable
pub first_before : (x : Variable) (xs : List Variable) (all : List Value) → KeepFirsts xs all → KeepFirsts (x ∷ xs) (x.initial ∷ all)
first_before x xs all keep zero w at none = let same : x ≡ w = some_same x w at in ap (λ (y : Variable). Some y.initial) same
first_before x xs all keep (suc i) w at none = keep i w at none
