-- Worked acts by hand: machine 1 begins epoch 2, and then its replica there times out.
use Rattle.std.specs.Prelude.{ℕ, ◌≤◌, List, [], ◌∷◌, ◌++◌, take}
use Rattle.vr_model.specs.World.{Timeout, Done}
use Rattle.laws_epochs.specs.Machines.{Move}
use Rattle.laws_epoch_ends.specs.Acts.{Act, Happens}
use Rattle.laws_epoch_ends.specs.Processes.{AreOfProcesses, BeginsIn}
use Rattle.laws_epoch_ends.specs.WorkedEpochs.{epoch, in_epoch_1}
use Rattle.laws_epoch_ends.specs.WorkedEpochs as worked
use Rattle.laws_epoch_ends.specs.WorkedActs.{as_acts}

module _ (low : 1 ≤ 1) (high : 1 ≤ 3) where
  -- up to where machine 1 takes part in epoch 2
  abbrev pub one_takes_part : List Move
  one_takes_part = take 9 (worked.by_hand low high)

module _ {C : Type 0} (low : 1 ≤ 1) (high : 1 ≤ 3) where
  abbrev pub begins_by_hand : List (Act C)
  begins_by_hand = as_acts (one_takes_part low high) ++ Happens (epoch 2) (Timeout 1) Done ∷ []

  pub record WorkedProcesses {A : Type 0} (answer : List C → A) : Type 0 where
    pub of_processes : AreOfProcesses 1 answer (epoch 2) in_epoch_1 begins_by_hand
    pub begins : BeginsIn begins_by_hand 1 (epoch 2)
