-- A store whose saves are tried again holds no more views than one that tries once.
use Rattle.std.proofs.Common.{◌≡◌, ℕ, zero, suc, Bool, true, false, Option, Some, None, refl, sym, ap, ◌∙◌, inl, inr}
use Rattle.std.proofs.lemmas.Bool.{cases_eq}
use Rattle.vr_model.specs.declared.event.Stored.{Stored}
use Rattle.vr_model.specs.Replicas.{put}
use Rattle.vr_model.specs.Stores.{only}
use Rattle.vr_threads.specs.Trying.{SavesBehind, TriesAgain}
use Rattle.laws_threads.specs.KeptViews.{KeepsViews}
use Rattle.laws_threads.proofs.JudgedKept.{only_is}
use Rattle.laws_threads.proofs.Tables.{put_same, put_other}

-- just this view, or that one
either : (k : ℕ → Bool) (one view u : ℕ) → k one ≡ true → k view ≡ true → put (only one) view true u ≡ true → k u ≡ true
either k one view u here there is = elim (cases_eq u view) [
  | inl e ↦ ap k e ∙ there
  | inr ne ↦ ap k (only_is one u (sym (put_other (only one) view true u ne) ∙ is)) ∙ here
]

module _ {S : Type 0} (loads : S → Option Stored → S → Type 0) (saves : S → ℕ → Bool → S → Type 0) (begins : S → Option Stored → S → Type 0) (holds : S → (ℕ → Bool) → Type 0) (kept : KeepsViews loads saves begins holds) where
  again_made : (s t : S) (k : ℕ → Bool) (view : ℕ) → holds s k → TriesAgain loads saves s view true t → holds t (only view)
  again_made s t k view holding a = elim a [
    | inl b ↦ kept.saves b.1 t (only b.0.view) view (kept.loads s b.1 k b.0 holding b.2).1 b.3
    | inr b ↦ absurd (let wrong : true ≡ false = b.0 in cc)
  ]

  -- where the view that is saved may be held already, nothing is added
  again_failed : (s t : S) (k : ℕ → Bool) (view : ℕ) → k view ≡ true → holds s k → TriesAgain loads saves s view false t → holds t k
  again_failed s t k view may holding a = elim a [
    | inl b ↦ (
        let now : (k b.0.view ≡ true) × holds b.1 (only b.0.view) = kept.loads s b.1 k b.0 holding b.2 in
        kept.more t (put (only b.0.view) view true) k (kept.save_failed b.1 t (only b.0.view) view now.1 b.3) (λ u is. either k b.0.view view u now.0 may is))
    | inr b ↦ kept.load_failed s t k holding b.1
  ]

  pub failed_at_last : (tries : ℕ) (s t : S) (k : ℕ → Bool) (view : ℕ) → holds s k → SavesBehind loads saves tries s view false t → holds t (put k view true)
  failed_at_last zero s t k view holding b = kept.save_failed s t k view holding b
  failed_at_last (suc n) s t k view holding b = again_failed b.0 t (put k view true) view (put_same k view true view refl) (failed_at_last n s b.0 k view holding b.1) b.2

  pub made_at_last : (tries : ℕ) (s t : S) (k : ℕ → Bool) (view : ℕ) → holds s k → SavesBehind loads saves tries s view true t → holds t (only view)
  made_at_last zero s t k view holding b = kept.saves s t k view holding b
  made_at_last (suc n) s t k view holding b = again_made b.0 t (put k view true) view (failed_at_last n s b.0 k view holding b.1) b.2
