-- What a store holds whose starts are numbered is what the store inside holds.
use Rattle.std.proofs.Common.{◌≡◌, ◌==◌, ℕ, Bool, true, false, Option, Some, None, sym, ap, ◌∙◌, subst, inl, inr}
use Rattle.std.specs.Prelude.{MatchBool}
use Rattle.vr_model.specs.declared.event.Stored.{Stored}
use Rattle.vr_model.specs.Stores.{only}
use Rattle.vr_threads.specs.Numbering.{Finds, BeginsNumbered}
use Rattle.laws_threads.specs.KeptViews.{KeepsViews}
use Rattle.laws_threads.proofs.JudgedKept.{only_is}

module _ {S : Type 0} (loads : S → Option Stored → S → Type 0) (saves : S → ℕ → Bool → S → Type 0) (begins : S → Option Stored → S → Type 0) (holds : S → (ℕ → Bool) → Type 0) (kept : KeepsViews loads saves begins holds) where
  found_is : (before : ℕ) (s t : S) (k : ℕ → Bool) (found : Stored) → holds s k → Finds begins loads before s (Some found) t → (k found.view ≡ true) × holds t (only found.view)
  found_is before s t k found holding f = of (before == 0) f
    where
      of : (b : Bool) → MatchBool b (begins s (Some found) t) (loads s (Some found) t) → (k found.view ≡ true) × holds t (only found.view)
      of true b = kept.begins s t k found holding b
      of false l = kept.loads s t k found holding l

  not_found : (before : ℕ) (s t : S) (k : ℕ → Bool) → holds s k → Finds begins loads before s None t → holds t k
  not_found before s t k holding f = of (before == 0) f
    where
      of : (b : Bool) → MatchBool b (begins s None t) (loads s None t) → holds t k
      of true b = kept.begin_failed s t k holding b
      of false l = kept.load_failed s t k holding l

  pub begun : (before : ℕ) (s t : S) (k : ℕ → Bool) (stored : Stored) → holds s k → BeginsNumbered begins loads before s (Some stored) t → (k stored.view ≡ true) × holds t (only stored.view)
  begun before s t k stored holding b =
      let now : (k b.0.view ≡ true) × holds t (only b.0.view) = found_is before s t k b.0 holding b.1 in
      let is : stored.view ≡ b.0.view = ap (λ (y : Stored). y.view) b.3 in
      (ap k is ∙ now.0, subst (λ v. holds t (only v)) (sym is) now.1)

  pub not_begun : (before : ℕ) (s t : S) (k : ℕ → Bool) → holds s k → BeginsNumbered begins loads before s None t → holds t k
  not_begun before s t k holding b = elim b [
    | inl f ↦ not_found before s t k holding f
    | inr m ↦ (
        let now : (k m.0.view ≡ true) × holds t (only m.0.view) = found_is before s t k m.0 holding m.1 in
        kept.more t (only m.0.view) k now.1 (λ u is. ap k (only_is m.0.view u is) ∙ now.0))
  ]
