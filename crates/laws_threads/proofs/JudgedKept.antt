-- What a judged store may hold is what the store inside may hold.
use Rattle.std.proofs.Common.{◌≡◌, ℕ, Bool, true, false, Option, Some, None, sym, ap, ◌∙◌, inl, inr}
use Rattle.std.proofs.lemmas.Bool.{cases_eq}
use Rattle.vr_model.specs.declared.event.Stored.{Stored}
use Rattle.vr_model.specs.Stores.{only}
use Rattle.vr_threads.specs.Working.{BeginsAsJudged}
use Rattle.laws_threads.specs.KeptViews.{KeepsViews}
use Rattle.laws_threads.proofs.Tables.{put_other}

pub only_is : (view u : ℕ) → only view u ≡ true → u ≡ view
only_is view u is = elim (cases_eq u view) [
  | inl e ↦ e
  | inr ne ↦ (let wrong : false ≡ true = sym (put_other (λ v. false) view true u ne) ∙ is in absurd cc)
]

module _ {S : Type 0} (loads : S → Option Stored → S → Type 0) (saves : S → ℕ → Bool → S → Type 0) (begins : S → Option Stored → S → Type 0) (holds : S → (ℕ → Bool) → Type 0) (kept : KeepsViews loads saves begins holds) where
  pub begun : (is_first : Bool) (s t : S) (k : ℕ → Bool) (stored : Stored) → holds s k → BeginsAsJudged begins is_first s (Some stored) t → (k stored.view ≡ true) × holds t (only stored.view)
  begun is_first s t k stored holding b = kept.begins s t k stored holding b.0

  pub not_begun : (is_first : Bool) (s t : S) (k : ℕ → Bool) → holds s k → BeginsAsJudged begins is_first s None t → holds t k
  not_begun is_first s t k holding b = elim b [
    | inl f ↦ kept.begin_failed s t k holding f
    | inr m ↦ (
        let now : (k m.0.view ≡ true) × holds t (only m.0.view) = kept.begins s t k m.0 holding m.1 in
        kept.more t (only m.0.view) k now.1 (λ u is. ap k (only_is m.0.view u is) ∙ now.0))
  ]
