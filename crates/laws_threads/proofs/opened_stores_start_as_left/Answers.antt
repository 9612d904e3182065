use Rattle.std.proofs.Common.{◌≡◌, ℕ, Bool, false, Option, Some, None, refl, ◌∙◌, inl}
use Rattle.std.proofs.lemmas.Option.{same_Some}
use Rattle.vr_model.specs.declared.event.Stored.{Stored}
use Rattle.vr_model.specs.Stores.{only}
use Rattle.vr_threads.specs.declared.file_store.Held.{Held}
use Rattle.laws_threads.specs.CodeMoves.{Seat}
use Rattle.laws_threads.specs.KeptViews.{HoldsNoOther}
use Rattle.laws_threads.specs.OpenedStores.{IsFileLeft, IsLater, IsJudgedLater}
use Rattle.laws_threads.proofs.opened_stores_start_as_left.Goals as goal

module _ {S : Type 0} (holds : S → (ℕ → Bool) → Type 0) where
  abbrev Next : Option (Seat S) → S → Option ℕ → Type 0
  Next None found starts = holds found (only 0)
  Next (Some seat) found starts = ((k : ℕ → Bool) → holds seat.store k → holds found k) × (starts ≡ Some 1 → ⊥)

  next : (seat : Option (Seat S)) (had : Held) (stored : Stored) (knowing : S) → IsFileLeft holds seat had → IsLater seat stored → ((k : ℕ → Bool) → HoldsNoOther had k → holds knowing k) → Next seat knowing (Some stored.starts)
  next None had stored knowing file later knows = knows (only 0) file
  next (Some seat) had stored knowing file later knows = (λ k h. knows k (file k h), λ e. later (same_Some stored.starts 1 e))

  abbrev NextJudged : (S → Bool) → Option (Seat S) → S → Type 0
  NextJudged is_first None found = holds found (only 0)
  NextJudged is_first (Some seat) found = ((k : ℕ → Bool) → holds seat.store k → holds found k) × (is_first found ≡ false)

  judged : (is_first : S → Bool) (seat : Option (Seat S)) (had : Held) (knowing : S) (first : Bool) → IsFileLeft holds seat had → IsJudgedLater seat first → is_first knowing ≡ first → ((k : ℕ → Bool) → HoldsNoOther had k → holds knowing k) → NextJudged is_first seat knowing
  judged is_first None had knowing first file later same knows = knows (only 0) file
  judged is_first (Some seat) had knowing first file later same knows = (λ k h. knows k (file k h), same ∙ later)

pub returns-clause-threads : goal.returns-clause-threads
returns-clause-threads g c = λ group i seat had was stored found left replica nonce file may begun is with later.
    let s = c.opened_stores_start_knowing.ensures.threads had was stored found left may begun is in
    record { knowing = s.knowing; start = inl (stored, s.starts, refl, with); next = next _ seat had stored s.knowing file later s.knows }

pub returns-clause-machines : goal.returns-clause-machines
returns-clause-machines g c = λ group i seat had was stored found left replica nonce file may none begun is with later.
    let s = c.opened_stores_start_knowing.ensures.machines had was stored found left may none begun is in
    record { knowing = s.0.knowing; start = inl (stored, s.0.starts, refl, with); next = judged _ _ seat had s.0.knowing found.is_first file later s.1 s.0.knows }
