-- Worked deeds: machine 1 begins epoch 2 by hand, loses its disk, and waits above that epoch (`WorkedLosses` of
-- laws_epochs). The replicas of machines 0 and 1 are down in epoch 1; machine 2 recovers there in the
-- end.
use Rattle.std.specs.Prelude.{ℕ, ◌≤◌, List, [], ◌∷◌, ◌++◌, map}
use Rattle.vr_model.specs.World.{Crash, Timeout, Done}
use Rattle.laws_epochs.specs.LostDisks.{Event, LosesDisk}
use Rattle.laws_epochs.specs.WorkedLosses as worked
use Rattle.laws_epochs.specs.WorkedLosses.{epoch, in_epoch_1}
use Rattle.laws_epoch_ends.specs.LostDisks.{Deed, Does, Happens, AreHosted, AreOfProcesses}

abbrev pub as_deeds : {C : Type 0} → List Event → List (Deed C)
as_deeds events = map Does events

module _ (low : 1 ≤ 1) (high : 1 ≤ 3) where
  abbrev pub all_events : List Event
  all_events = worked.one_is_lost low high ++ (worked.others_greet low high ++ worked.one_waits low high)

module _ {C : Type 0} (low : 1 ≤ 1) (high : 1 ≤ 3) where
  -- in epoch 1
  abbrev pub all_deeds : List (Deed C)
  all_deeds = Happens (epoch 1) (Crash 0) Done ∷ Happens (epoch 1) (Crash 1) Done ∷ as_deeds (all_events low high)

  -- in epoch 2: the new replica of machine 1 times out, and its disk is lost
  abbrev pub begins_and_is_lost : List (Deed C)
  begins_and_is_lost = as_deeds (worked.one_begins low high)
      ++ Happens (epoch 2) (Timeout 1) Done ∷ as_deeds (LosesDisk 1 ∷ [])

  pub record WorkedLosses {A : Type 0} (answer : List C → A) : Type 0 where
    pub hosted : AreHosted 1 answer in_epoch_1 (epoch 1) all_deeds
    pub of_processes : AreOfProcesses 1 answer in_epoch_1 (epoch 2) begins_and_is_lost
