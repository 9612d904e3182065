-- A restart is an observation or none; lists of observations join.
use Rattle.std.proofs.Common.{◌≡◌, ℕ, List, [], ◌∷◌, ◌++◌, refl, sym, subst, Bool, true, false, Option, Some, None, Ok, Err}
use Rattle.std.proofs.lemmas.List.{append-nil}
use Rattle.il_model.specs.declared.command.Command.{Command}
use Rattle.il_model.specs.declared.command.Answer.{Answer}
use Rattle.vr_model.specs.declared.event.Event.TheVariants as event
use Rattle.vr_model.specs.declared.event.Stored.{Stored}
use Rattle.vr_model.specs.Membership.{Membership}
use Rattle.vr_model.specs.Replicas.{is_down}
use Rattle.vr_model.specs.Stores.{Observation, CameUp, StayedDown, KnownState, comes_up_with, next}
use Rattle.vr_core.specs.StandsFor.{IsSavedAs}
use Rattle.vr_replica.specs.declared.state.Replica.{Replica}
use Rattle.vr_replica.specs.declared.fault.StepFault.TheVariants as fault
use Rattle.vr_replica.specs.Standing.{StandsFor}
use Rattle.vr_replica.specs.Stepped.{StepResult}
use Rattle.vr_replica.specs.Stepped as step
use Rattle.vr_serving.specs.Serving as serving
use Rattle.vr_threads.specs.Observed.{AreRight, known_after, Restarted}

module _ {S : Type 0} (loads : S → Option Stored → S → Type 0) (saves : S → ℕ → Bool → S → Type 0) (m : Membership) (q r : Replica) (s t : S) (nonce : ℕ) (k : KnownState Command) where
  restarts : (result : StepResult) → step.Restarted loads saves IsSavedAs (StandsFor r m) m k.replica s t nonce result → is_down k.replica.status ≡ true → k.used nonce ≡ false
      → ((stored : Stored) → loads s (Some stored) t → k.may_keep stored.view ≡ true) → Restarted m k nonce r (serving.sends_in result)
  restarts (Ok sends) h down unused kept = record {
    shown = Some (CameUp nonce h.stored.view (comes_up_with m.f m.number m.answer k.replica h.stored.view nonce).sends);
    of_nonce = refl;
    right = ((down, unused, kept h.stored h.loaded, refl), tt);
    stands = h.replica;
    sends = (sends.items, [], h.sends, refl, sym (append-nil sends.items));
  }
  restarts (Err fault.Memory) h down unused kept = record { shown = Some (StayedDown nonce); of_nonce = refl; right = ((down, unused), tt); stands = h.replica; sends = ([], [], tt, refl, refl) }
  restarts (Err fault.Store) h down unused kept = record { shown = None; of_nonce = tt; right = tt; stands = h.replica; sends = refl }
  restarts (Err fault.Down) h down unused kept = absurd h

pub restarted : {S : Type 0} (loads : S → Option Stored → S → Type 0) (saves : S → ℕ → Bool → S → Type 0) (faults : S → ℕ) (q r : Replica) (s t : S) (nonce : ℕ) (result : StepResult)
    (m : Membership) (known : KnownState Command) → serving.StepsTo loads saves faults q s (event.Restart nonce) r t result → StandsFor q m known.replica → is_down known.replica.status ≡ true
    → known.used nonce ≡ false → ((stored : Stored) → loads s (Some stored) t → known.may_keep stored.view ≡ true) → Restarted m known nonce r (serving.sends_in result)
restarted loads saves faults q r s t nonce result m known steps stands down unused kept =
    restarts loads saves m q r s t nonce known result (subst (λ (b : Bool). step.RestartedIf loads saves IsSavedAs (StandsFor r m) m known.replica s t b nonce result) down (steps.row m known.replica stands)) down unused kept

-- lists of observations, one behind the other
pub join : (m : Membership) (known : KnownState Command) (early late : List (Observation Command Answer)) → AreRight m known early → AreRight m (known_after m known early) late
    → AreRight m known (early ++ late) × (known_after m known (early ++ late) ≡ known_after m (known_after m known early) late)
join m known [] late before after = (after, refl)
join m known (g ∷ gs) late before after =
    let rest = join m (next m.f m.number m.answer known g) gs late before.1 after in
    ((before.0, rest.0), rest.1)
