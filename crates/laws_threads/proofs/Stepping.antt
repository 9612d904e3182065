-- One step of the code is one observation, and leaves of its store what that says.
use Rattle.std.proofs.Common.{◌≡◌, ℕ, Bool, true, false, [], Option, Some, None, Ok, Err, refl, sym, ap, ◌∙◌, subst, ◌⊎◌, inl, inr}
use Rattle.std.specs.Prelude.{is_some}
use Rattle.std.proofs.lemmas.Bool.{cases_eq}
use Rattle.il_model.specs.declared.command.Command.{Command}
use Rattle.il_model.specs.declared.command.Answer.{Answer}
use Rattle.vr_model.specs.declared.event.Event.{Event}
use Rattle.vr_model.specs.declared.event.Event.TheVariants as event
use Rattle.vr_model.specs.declared.event.Stored.{Stored}
use Rattle.vr_model.specs.Membership.{Membership}
use Rattle.vr_model.specs.Replicas.{is_down, ReplicaState, Outcome, put}
use Rattle.vr_model.specs.StandsFor.{Fits}
use Rattle.vr_model.specs.Steps.{Input, acts}
use Rattle.vr_model.specs.Stores.{Observation, CameUp, StayedDown, KnownState, only, settles, adds, comes_up_with, next}
use Rattle.vr_core.specs.StandsFor.{IsSavedAs}
use Rattle.vr_replica.specs.declared.state.Replica.{Replica}
use Rattle.vr_replica.specs.declared.fault.StepFault.TheVariants as fault
use Rattle.vr_replica.specs.Standing.{StandsFor}
use Rattle.vr_replica.specs.Stepped.{StepResult, Acted, KeepsExecuted}
use Rattle.vr_replica.specs.Stepped as step
use Rattle.laws_threads.specs.KeptViews.{KeepsViews}
use Rattle.vr_serving.specs.Serving.{StepsTo, sends_in}
use Rattle.laws_threads.specs.ObservedMoves.{Means, FitsIn, observation_of, IsShownAs}
use Rattle.laws_threads.proofs.Tables.{put_same, put_other}

-- who is down does nothing
pub idle : (m : Membership) (r : ReplicaState Command) (x : Input Command Answer) → is_down r.status ≡ true
    → acts m.f m.number m.answer r x ≡ record { replica = r; saves = None; sends = [] }
idle m r x h = rw h refl

module _ {S : Type 0} (loads : S → Option Stored → S → Type 0) (saves : S → ℕ → Bool → S → Type 0) (m : Membership) (r : Replica) (s t : S) (k : KnownState Command) (x : Input Command Answer) where
  pub shows : (result : StepResult) → Acted loads saves IsSavedAs (StandsFor r m) m k.replica s t (acts m.f m.number m.answer k.replica x) result → IsShownAs m k (observation_of m k.replica x result) r (sends_in result)
  shows (Ok sends) h = record { may = refl; stands = h.replica; says = h.sends }
  shows (Err fault.Memory) h = record { may = h.matters; stands = h.replica; says = tt }
  shows (Err fault.Store) h = record { may = ap is_some h.saves; stands = h.replica; says = tt }
  shows (Err fault.Down) h = record {
    may = ap (λ (o : Outcome Command Answer). o.sends) (sym (idle m k.replica x h.0));
    stands = subst (StandsFor r m) (ap (λ (o : Outcome Command Answer). o.replica) (sym (idle m k.replica x h.0))) h.1.replica;
    says = tt;
  }

-- it takes nothing
abbrev pub IsRestart : Observation Command Answer → Type 0
IsRestart (CameUp n loaded sends) = Unit {0}
IsRestart (StayedDown n) = Unit {0}
IsRestart _ = ⊥

module _ {S : Type 0} (loads : S → Option Stored → S → Type 0) (saves : S → ℕ → Bool → S → Type 0) (begins : S → Option Stored → S → Type 0) (holds : S → (ℕ → Bool) → Type 0) (keeps : KeepsViews loads saves begins holds) where
  settled : (s t : S) (k : ℕ → Bool) (o : Option ℕ) → step.Saved loads saves s o t → holds s k → holds t (settles k o)
  settled s t k None same h = subst (λ u. holds u k) (sym same) h
  settled s t k (Some u) saved h = keeps.saves s t k u h saved

  put_more : (k : ℕ → Bool) (u v : ℕ) → k v ≡ true → put k u true v ≡ true
  put_more k u v e = elim (cases_eq v u) [
    | inl is ↦ put_same k u true v is
    | inr ne ↦ put_other k u true v ne ∙ e
  ]

  only_more : (k : ℕ → Bool) (u v : ℕ) → only u v ≡ true → put k u true v ≡ true
  only_more k u v e = elim (cases_eq v u) [
    | inl is ↦ put_same k u true v is
    | inr ne ↦ absurd (let c : false ≡ true = sym (put_other (λ x. false) u true v ne) ∙ e in cc)
  ]

  -- one of the views that it may hold
  pub only_of : (k : ℕ → Bool) (u : ℕ) → k u ≡ true → (v : ℕ) → only u v ≡ true → k v ≡ true
  only_of k u known v e = elim (cases_eq v u) [
    | inl is ↦ subst (λ w. k w ≡ true) (sym is) known
    | inr ne ↦ absurd (let c : false ≡ true = sym (put_other (λ x. false) u true v ne) ∙ e in cc)
  ]

  added : (s t : S) (k : ℕ → Bool) (o : Option ℕ) → (t ≡ s) ⊎ step.Saved loads saves s o t → holds s k → holds t (adds k o)
  added s t k None x h = elim x [ inl same ↦ subst (λ u. holds u k) (sym same) h | inr same ↦ subst (λ u. holds u k) (sym same) h ]
  added s t k (Some u) x h = elim x [
    | inl same ↦ keeps.more t k (put k u true) (subst (λ w. holds w k) (sym same) h) (put_more k u)
    | inr saved ↦ keeps.more t (only u) (put k u true) (keeps.saves s t k u h saved) (only_more k u)
  ]

  adds_more : (k : ℕ → Bool) (o : Option ℕ) (v : ℕ) → k v ≡ true → adds k o v ≡ true
  adds_more k None v e = e
  adds_more k (Some u) v e = put_more k u v e

  module _ (m : Membership) (r : Replica) (s t : S) (k : KnownState Command) where
    -- whatever comes of a step, its store holds no other view than before and that which its rule saves
    would_hold : (x : Input Command Answer) (result : StepResult) → Acted loads saves IsSavedAs (StandsFor r m) m k.replica s t (acts m.f m.number m.answer k.replica x) result → holds s k.may_keep
        → holds t (adds k.may_keep (acts m.f m.number m.answer k.replica x).saves)
    would_hold x (Ok sends) h kept = added s t k.may_keep (acts m.f m.number m.answer k.replica x).saves (inr h.saved) kept
    would_hold x (Err fault.Memory) h kept = added s t k.may_keep (acts m.f m.number m.answer k.replica x).saves h.saved kept
    would_hold x (Err fault.Store) h kept = subst (λ o. holds t (adds k.may_keep o)) (sym h.saves) (keeps.save_failed s t k.may_keep h.view kept h.failed)
    would_hold x (Err fault.Down) h kept = added s t k.may_keep (acts m.f m.number m.answer k.replica x).saves (inl h.1.store) kept

    pub killed_holds : (left : S) (x : Input Command Answer) (result : StepResult) → Acted loads saves IsSavedAs (StandsFor r m) m k.replica s t (acts m.f m.number m.answer k.replica x) result → holds s k.may_keep
        → ((l : ℕ → Bool) → holds s l → holds t l → holds left l) → holds left (adds k.may_keep (acts m.f m.number m.answer k.replica x).saves)
    killed_holds left x result h kept no_other =
        let o : Option ℕ = (acts m.f m.number m.answer k.replica x).saves in
        no_other (adds k.may_keep o) (keeps.more s k.may_keep (adds k.may_keep o) kept (adds_more k.may_keep o)) (would_hold x result h kept)

    -- a restart holds no more behind it
    pub restart_held : (n : ℕ) (result : StepResult) → step.Restarted loads saves IsSavedAs (StandsFor r m) m k.replica s t n result → holds s k.may_keep → holds t k.may_keep
    restart_held n (Ok sends) h kept = let loaded = keeps.loads s t k.may_keep h.stored kept h.loaded in keeps.more t (only h.stored.view) k.may_keep loaded.1 (only_of k.may_keep h.stored.view loaded.0)
    restart_held n (Err fault.Memory) h kept = elim (h.loaded) [
      | inl same ↦ subst (λ u. holds u k.may_keep) (sym same) kept
      | inr l ↦ (let loaded = keeps.loads s t k.may_keep l.0 kept l.1 in keeps.more t (only l.0.view) k.may_keep loaded.1 (only_of k.may_keep l.0.view loaded.0))
    ]
    restart_held n (Err fault.Store) h kept = keeps.load_failed s t k.may_keep kept h.failed
    restart_held n (Err fault.Down) h kept = absurd h

    pub held : (x : Input Command Answer) (result : StepResult) → Acted loads saves IsSavedAs (StandsFor r m) m k.replica s t (acts m.f m.number m.answer k.replica x) result → holds s k.may_keep
        → holds t (next m.f m.number m.answer k (observation_of m k.replica x result)).may_keep
    held x (Ok sends) h kept = settled s t k.may_keep (acts m.f m.number m.answer k.replica x).saves h.saved kept
    held x (Err fault.Memory) h kept = added s t k.may_keep (acts m.f m.number m.answer k.replica x).saves h.saved kept
    held x (Err fault.Store) h kept = subst (λ o. holds t (adds k.may_keep o)) (sym h.saves) (keeps.save_failed s t k.may_keep h.view kept h.failed)
    held x (Err fault.Down) h kept =
        subst (λ (o : Outcome Command Answer). holds t (settles k.may_keep o.saves)) (sym (idle m k.replica x h.0)) (subst (λ u. holds u k.may_keep) (sym h.1.store) kept)

    -- a restart that came up, or found no memory, is one observation
    pub came_up : (n : ℕ) (result : StepResult) → step.Restarted loads saves IsSavedAs (StandsFor r m) m k.replica s t n result → is_down k.replica.status ≡ true → k.used n ≡ false → holds s k.may_keep
        → ((gs : Observation Command Answer) × IsShownAs m k gs r (sends_in result) × holds t (next m.f m.number m.answer k gs).may_keep × ((next m.f m.number m.answer k gs).used ≡ put k.used n true) × IsRestart gs)
        ⊎ (StandsFor r m k.replica × holds t k.may_keep × (sends_in result ≡ []))
    came_up n (Ok sends) h down unused kept =
        let loaded = keeps.loads s t k.may_keep h.stored kept h.loaded in
        inl (CameUp n h.stored.view (comes_up_with m.f m.number m.answer k.replica h.stored.view n).sends, record { may = (down, unused, loaded.0, refl); stands = h.replica; says = h.sends }, loaded.1, refl, tt)
    came_up n (Err fault.Memory) h down unused kept =
        inl (StayedDown n, record { may = (down, unused); stands = h.replica; says = tt }, still h.loaded, refl, tt)
      where
        still : (t ≡ s) ⊎ ((stored : Stored) × loads s (Some stored) t) → holds t k.may_keep
        still x = elim x [
          | inl same ↦ subst (λ u. holds u k.may_keep) (sym same) kept
          | inr l ↦ (let loaded = keeps.loads s t k.may_keep l.0 kept l.1 in keeps.more t (only l.0.view) k.may_keep loaded.1 (only_of k.may_keep l.0.view loaded.0))
        ]
    came_up n (Err fault.Store) h down unused kept = inr (h.replica, keeps.load_failed s t k.may_keep kept h.failed, refl)
    came_up n (Err fault.Down) h down unused kept = absurd h

-- what a step owes of an event is what it owes of the input that is meant
pub acted : {S : Type 0} (loads : S → Option Stored → S → Type 0) (saves : S → ℕ → Bool → S → Type 0) (faults : S → ℕ) (q r : Replica) (s t : S) (e : Event) (result : StepResult) (m : Membership) (k : KnownState Command) (x : Input Command Answer)
    → StepsTo loads saves faults q s e r t result → StandsFor q m k.replica → Means m e x → KeepsExecuted m k.replica x → FitsIn m k.replica e x
    → Acted loads saves IsSavedAs (StandsFor r m) m k.replica s t (acts m.f m.number m.answer k.replica x) result
acted loads saves faults q r s t (event.Message a) result m k x steps stands means keeps fits =
    subst (λ (y : Input Command Answer). Acted loads saves IsSavedAs (StandsFor r m) m k.replica s t (acts m.f m.number m.answer k.replica y) result) (sym means.2)
    (steps.row m k.replica stands means.0 means.1 (subst (λ (y : Input Command Answer). KeepsExecuted m k.replica y) means.2 keeps)
    (subst (λ (y : Input Command Answer). Fits IsSavedAs m.group k.replica (acts m.f m.number m.answer k.replica y) a.body) means.2 fits))
acted loads saves faults q r s t event.Timeout result m k x steps stands means keeps fits =
    subst (λ (y : Input Command Answer). Acted loads saves IsSavedAs (StandsFor r m) m k.replica s t (acts m.f m.number m.answer k.replica y) result) (sym means) (steps.row m k.replica stands)
acted loads saves faults q r s t event.Resend result m k x steps stands means keeps fits =
    subst (λ (y : Input Command Answer). Acted loads saves IsSavedAs (StandsFor r m) m k.replica s t (acts m.f m.number m.answer k.replica y) result) (sym means) (steps.row m k.replica stands)
acted loads saves faults q r s t (event.Restart n) result m k x steps stands means keeps fits = absurd means

pub step_shown : {S : Type 0} (loads : S → Option Stored → S → Type 0) (saves : S → ℕ → Bool → S → Type 0) (faults : S → ℕ) (q r : Replica) (s t : S) (e : Event) (result : StepResult) (m : Membership) (k : KnownState Command) (x : Input Command Answer)
    → StepsTo loads saves faults q s e r t result → StandsFor q m k.replica → Means m e x → KeepsExecuted m k.replica x → FitsIn m k.replica e x
    → IsShownAs m k (observation_of m k.replica x result) r (sends_in result)
step_shown loads saves faults q r s t e result m k x steps stands means keeps fits =
    shows loads saves m r s t k x result (acted loads saves faults q r s t e result m k x steps stands means keeps fits)
