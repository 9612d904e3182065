-- Worked acts of three machines and of the run of epoch 1: the power is cut, so all replicas of it are down; machines 0
-- and 1 come up and recover there, give it up and begin epoch 2 (`WorkedEpochs`). No replica is handed an answer, and
-- each is closed before its machine's store gets epoch 2.
use Rattle.std.specs.Prelude.{ℕ, ◌≤◌, List, [], ◌∷◌, ◌++◌, drop, map, take}
use Rattle.vr_model.specs.World.{Event, Crash, Restart, Done}
use Rattle.plc_epochs.specs.Epochs.{nothing_told}
use Rattle.plc_epochs.specs.declared.word.Word.TheVariants.{StillFrozen}
use Rattle.plc_epochs.specs.declared.cold_start.Phase.TheVariants.{Beginning, Entering}
use Rattle.plc_epochs.specs.declared.cold_start.Step.TheVariants as steps
use Rattle.laws_epochs.specs.Machines.{Move, Takes, TimeHasPassed, WordCame}
use Rattle.laws_epoch_ends.specs.Acts.{Act, Moves, Happens, AreHosted}
use Rattle.laws_epoch_ends.specs.WorkedEpochs.{epoch, in_epoch_1}
use Rattle.laws_epoch_ends.specs.WorkedEpochs as worked

-- in the run of epoch 1
abbrev pub happens : {C : Type 0} → Event C → Act C
happens event = Happens (epoch 1) event Done

abbrev pub as_acts : {C : Type 0} → List Move → List (Act C)
as_acts moves = map Moves moves

-- each nonce of a replica is that of its machine
abbrev pub same_nonce : ℕ → ℕ → ℕ
same_nonce i nonce = nonce

module _ (low : 1 ≤ 1) (high : 1 ≤ 3) where
  abbrev pub gives_up : Move
  gives_up = Takes 0 (WordCame 1 (epoch 1) (StillFrozen (worked.answer low high)) 1400) (steps.Ends (epoch 2))
      (worked.machine low high 0 (Entering (epoch 2) nothing_told) nothing_told)

  abbrev pub begins : Move
  begins = Takes 1 (TimeHasPassed 1600) (steps.Begins (epoch 2))
      (worked.machine low high 1 (Beginning (epoch 2)) nothing_told)

module _ {C : Type 0} (low : 1 ≤ 1) (high : 1 ≤ 3) where
  abbrev pub power_cut : List (Act C)
  power_cut = happens (Crash 0) ∷ happens (Crash 1) ∷ happens (Crash 2) ∷ []

  abbrev pub both_come_up : List (Act C)
  both_come_up = as_acts (take 1 (worked.both_freeze low high))
      ++ happens (Restart 0 (worked.nonce low high)) ∷ (as_acts (take 1 (drop 1 (worked.both_freeze low high)))
      ++ happens (Restart 1 (worked.nonce low high)) ∷ [])

  -- up to where machine 0 has its evidence
  abbrev pub both_freeze : List (Act C)
  both_freeze = power_cut ++ (both_come_up ++ (as_acts (drop 2 (worked.both_freeze low high))
      ++ as_acts (take 1 (worked.one_leaves low high))))

  -- machine 0 closes its replica, and enters epoch 2; machine 1 follows
  abbrev pub both_enter : List (Act C)
  both_enter = happens (Crash 0) ∷ (as_acts (drop 2 (worked.one_leaves low high))
      ++ (as_acts (take 1 (worked.one_begins low high))
      ++ happens (Crash 1) ∷ as_acts (take 2 (drop 1 (worked.one_begins low high)))))

  abbrev pub acts : List (Act C)
  acts = both_freeze ++ Moves (gives_up low high) ∷ (both_enter
      ++ Moves (begins low high) ∷ as_acts (drop 4 (worked.one_begins low high)))

  pub record WorkedActs {A : Type 0} (answer : List C → A) : Type 0 where
    pub hosted : AreHosted 1 answer in_epoch_1 same_nonce (epoch 1) acts
