-- Machines that never crash, and a group that has no end by evidence.
use Rattle.std.specs.Prelude.{◌≡◌, ℕ, ◌<◌, Bool, true, List, [], ◌∷◌}
use Rattle.vr_model.specs.Groups.{group_size}
use Rattle.vr_model.specs.Replicas.{takes_part}
use Rattle.vr_model.specs.World.{Event, Completion}
use Rattle.vr_model.specs.Stores.{Observation, Did, LostStep, LostSave, Crashed, CameUp, StayedDown}
use Rattle.vr_model.specs.Interleaving.{events}
use Rattle.laws_cold_start.specs.ColdStarts.{AreFrozen}
use Rattle.laws_threads.specs.ObservedMoves.{known_at}
use Rattle.laws_durable.specs.Machines.{Deed, TakesUp, HandsOut, Rebases, Resumes, Shows}
use Rattle.laws_durable.specs.DurableMoves.{DurableMove, OfMachine, OfClient, AreOneRun}

module _ {C A : Type 0} where
  -- no crash, no save that failed, and no start
  abbrev pub GoesOn : Observation C A → Type 0
  GoesOn (Did x sends) = Unit {0}
  GoesOn (LostStep x) = Unit {0}
  GoesOn (LostSave x) = ⊥
  GoesOn Crashed = ⊥
  GoesOn (CameUp x loaded sends) = ⊥
  GoesOn (StayedDown x) = ⊥

  -- a power cut behind which it resumes is none
  abbrev pub DoesNotCrash : Deed C A → Type 0
  DoesNotCrash (TakesUp x w) = Unit {0}
  DoesNotCrash HandsOut = Unit {0}
  DoesNotCrash Rebases = Unit {0}
  DoesNotCrash (Resumes survives base xs) = Unit {0}
  DoesNotCrash (Shows g) = GoesOn g

  abbrev pub NeverCrashes : ℕ → List (DurableMove C A) → Type 0
  NeverCrashes i [] = Unit {0}
  NeverCrashes i (OfMachine j d ∷ ms) = (j ≡ i → DoesNotCrash d) × NeverCrashes i ms
  NeverCrashes i (OfClient c d ∷ ms) = NeverCrashes i ms

  -- none of these machines does
  abbrev pub NoneCrashes : ℕ → (ℕ → Bool) → List (DurableMove C A) → Type 0
  NoneCrashes f who ms = (i : ℕ) → i < group_size f → who i ≡ true → NeverCrashes i ms

module _ {C A : Type 0} (f : ℕ) (answer : List C → A) where
  -- One run, at whose moment no f+1 replicas recover or are down, whatever comes behind it: so that is no moment at
  -- which the history has ended, as a cold start by evidence presupposes.
  pub record HasNoEnd (early late : List (DurableMove C A)) : Type 0 where
    pub one : AreOneRun f answer early late
    -- who never crashed takes part
    pub take_part : (i : ℕ) → i < group_size f → NeverCrashes i early
        → takes_part (known_at f answer one.first i).status ≡ true
    pub never_frozen : (later : List (Event C × Completion)) (who : ℕ → Bool) (nonces : ℕ → ℕ)
        → AreFrozen f answer (events one.run.first) later who nonces → ⊥
