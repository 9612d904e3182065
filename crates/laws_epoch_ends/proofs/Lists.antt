-- Lists that begin with others, and tables with one place changed.
use Rattle.std.proofs.Common.{◌≡◌, ◌⊎◌, ℕ, zero, suc, Bool, true, false, cond, List, [], ◌∷◌, ◌++◌, Option, Some, None, replicate, refl, sym, ap, ◌∙◌, subst, inl, inr, is_some, append_assoc, append-nil}
use Rattle.std.specs.Prelude.{slice_get, slice_set}
use Rattle.std.proofs.lemmas.Bool.{eq-eqb, ne_eqb, cases_eq, false≢true}
use Rattle.std.proofs.lemmas.Option.{same_Some}
use Rattle.vr_model.specs.Replicas.{put}
use Rattle.plc_epochs.specs.Epochs.{nothing_told}

pub put_cases : {X : Type 0} (t : ℕ → X) (k : ℕ) (x : X) (j : ℕ) → (P : X → Type 0) → (j ≡ k → P x) → ((j ≡ k → ⊥) → P (t j)) → P (put t k x j)
put_cases t k x j P here there = elim (cases_eq j k) [
  | inl e ↦ subst P (sym (ap (λ b. cond b x (t j)) (eq-eqb j k e))) (here e)
  | inr d ↦ subst P (sym (ap (λ b. cond b x (t j)) (ne_eqb j k d))) (there d)
]

-- the first list begins the second one
pub record Begins {X : Type 0} (early all : List X) : Type 0 where
  pub late : List X
  pub is : all ≡ early ++ late

pub whole : {X : Type 0} (xs : List X) → Begins xs xs
whole xs = record { late = []; is = sym (append-nil xs) }

pub begins_more : {X : Type 0} (xs ys more : List X) → Begins xs ys → Begins xs (ys ++ more)
begins_more xs ys more b = record { late = b.late ++ more; is = ap (λ zs. zs ++ more) b.is ∙ append_assoc xs b.late more }

pub chain : {X : Type 0} (xs ys zs : List X) → Begins xs ys → Begins ys zs → Begins xs zs
chain xs ys zs a b = record { late = a.late ++ b.late; is = b.is ∙ (ap (λ l. l ++ b.late) a.is ∙ append_assoc xs a.late b.late) }

abbrev pub is_full : {X : Type 0} → List X → Bool
is_full [] = false
is_full (y ∷ ys) = true

abbrev pub tail_of : {X : Type 0} → List X → List X
tail_of [] = []
tail_of (y ∷ ys) = ys

abbrev pub first_of : {X : Type 0} → X → List X → X
first_of x [] = x
first_of x (y ∷ ys) = y

-- of two that begin one list, the first begins the second, or the second and its next member begin the first
pub either_way : {X : Type 0} (xs ys : List X) (y : X) (all : List X) → Begins xs all → Begins (ys ++ y ∷ []) all → Begins xs ys ⊎ Begins (ys ++ y ∷ []) xs
either_way [] ys y all a b = inl (record { late = ys; is = refl })
either_way (x ∷ xs) [] y all a b =
    let same : x ∷ (xs ++ a.late) ≡ y ∷ b.late = sym a.is ∙ b.is in
    let e : x ≡ y = ap (first_of x) same in
    inr (record { late = xs; is = ap (λ z. z ∷ xs) e })
either_way (x ∷ xs) (z ∷ ys) y all a b =
    let same : x ∷ (xs ++ a.late) ≡ z ∷ ((ys ++ y ∷ []) ++ b.late) = sym a.is ∙ b.is in
    let e : x ≡ z = ap (first_of x) same in
    let rest : xs ++ a.late ≡ (ys ++ y ∷ []) ++ b.late = ap tail_of same in
    elim (either_way xs ys y (xs ++ a.late) (record { late = a.late; is = refl }) (record { late = b.late; is = rest })) [
      | inl k ↦ inl (record { late = k.late; is = ap (λ l. z ∷ l) k.is ∙ ap (λ w. w ∷ (xs ++ k.late)) (sym e) })
      | inr k ↦ inr (record { late = k.late; is = ap (λ l. x ∷ l) k.is ∙ ap (λ w. w ∷ ((ys ++ y ∷ []) ++ k.late)) e })
    ]

-- ---- what machines told

pub nothing_is_told : (j : ℕ) (v : ℕ) → slice_get nothing_told j ≡ Some (Some v) → ⊥
nothing_is_told j v h = go 7 j h
  where
    go : (n j : ℕ) → slice_get (replicate n None) j ≡ Some (Some v) → ⊥
    go zero j h = false≢true (ap is_some h)
    go (suc n) zero h = false≢true (ap is_some (same_Some None (Some v) h))
    go (suc n) (suc j) h = go n j h

pub told_more : (told : List (Option ℕ)) (from x j v : ℕ) → slice_get (slice_set told from (Some x)) j ≡ Some (Some v) → ((j ≡ from) × (v ≡ x)) ⊎ (slice_get told j ≡ Some (Some v))
told_more [] from x j v h = inr h
told_more (t ∷ ts) zero x zero v h = inl (refl, sym (same_Some x v (same_Some (Some x) (Some v) h)))
told_more (t ∷ ts) zero x (suc j) v h = inr h
told_more (t ∷ ts) (suc from) x zero v h = inr h
told_more (t ∷ ts) (suc from) x (suc j) v h = elim (told_more ts from x j v h) [
  | inl e ↦ inl (ap suc e.0, e.1)
  | inr k ↦ inr k
]
