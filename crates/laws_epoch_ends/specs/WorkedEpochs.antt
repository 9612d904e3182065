-- Worked moves of a group of three machines: the power is cut, two of them come up, and begin a new epoch by
-- themselves; and an operator has two of them begin one by hand.
use Rattle.std.specs.Prelude.{◌≡◌, ℕ, ◌≤◌, true, false, List, [], ◌∷◌, ◌++◌, Option, Some, slice_set}
use Rattle.net_hello.specs.declared.hello.Epoch.{Epoch}
use Rattle.plc_epochs.specs.declared.kept.Kept.{Kept}
use Rattle.plc_epochs.specs.declared.kept.Kept.TheVariants as keeps
use Rattle.plc_epochs.specs.declared.word.Answer.{Answer}
use Rattle.plc_epochs.specs.declared.word.Word.TheVariants.{Freeze, Frozen, Confirm, StillFrozen}
use Rattle.plc_epochs.specs.declared.recovery.Recovery.{Recovery}
use Rattle.plc_epochs.specs.declared.cold_start.ColdStart.{ColdStart}
use Rattle.plc_epochs.specs.declared.cold_start.Phase.{Phase}
use Rattle.plc_epochs.specs.declared.cold_start.Phase.TheVariants.{Entering, Entered, Beginning, TakingPart, Recovering}
use Rattle.plc_epochs.specs.declared.cold_start.Place.{Place}
use Rattle.plc_epochs.specs.declared.cold_start.Step.TheVariants as steps
use Rattle.plc_epochs.specs.Epochs.{nothing_told}
use Rattle.plc_epochs.specs.Recovering.{asking, asking_again, first_nonce, freezing, recovering_under, with_first}
use Rattle.laws_epochs.specs.Machines.{TimeHasPassed, StoreHas, HelloCame, RecoveryCame, WordCame}
use Rattle.laws_epochs.specs.Machines.{Move, Starts, Takes, Greets, Writes, Stops, GoesByHand, Machine}
use Rattle.laws_epoch_ends.specs.TrueMoves.{AreTrueMoves, machine_behind}
use Rattle.laws_epoch_ends.specs.Freezing.{IsFrozen}

-- the image of the one program
abbrev pub image : List ℕ
image = 7 ∷ []

abbrev pub epoch : ℕ → Epoch
epoch number = record { number = number; image = image }

-- all stores have begun epoch 1
abbrev pub in_epoch_1 : ℕ → Kept
in_epoch_1 i = keeps.Begun (epoch 1)

-- f is 1, which is at least 1 and at most 3
module _ (low : 1 ≤ 1) (high : 1 ≤ 3) where
  abbrev pub place : ℕ → Place
  place i = record {
    config = record { f = 1; every = 0; at_least_one = low; at_most_three = high };
    number = i;
    is_automatic = true;
    is_marked = false;
  }

  abbrev pub machine : ℕ → Phase → List (Option ℕ) → ColdStart
  machine i phase recoveries =
      record { place = place i; image = image; phase = phase; recoveries = recoveries; parts = nothing_told }

  -- ---- by themselves

  -- of the first start of each
  abbrev pub nonce : ℕ
  nonce = first_nonce 1

  abbrev pub from_the_start : Recovery
  from_the_start = recovering_under nonce 0

  abbrev pub recovers : ℕ → ColdStart
  recovers i = machine i (Recovering (epoch 1) from_the_start) nothing_told

  -- machine 0 has heard that machine 1 recovers
  abbrev pub heard : List (Option ℕ)
  heard = slice_set nothing_told 1 (Some 600)

  abbrev pub asks : Recovery
  asks = asking from_the_start 1000

  abbrev pub asks_again : Recovery
  asks_again = asking_again (with_first asks 1 nonce)

  abbrev pub freezes : Recovery
  freezes = freezing from_the_start 1100

  -- from either to the other
  abbrev pub answer : Answer
  answer = record { question = nonce; nonce = nonce }

  abbrev pub frozen_so_far : List (Option ℕ)
  frozen_so_far = slice_set nothing_told 1 (Some nonce)

  abbrev pub greeted : List (Option ℕ)
  greeted = slice_set nothing_told 0 (Some 1500)

  -- Both come up and recover; machine 0 asks, and machine 1 freezes.
  abbrev pub both_freeze : List Move
  both_freeze = Starts 0 (place 0) image 1 0 (recovers 0)
      ∷ Starts 1 (place 1) image 1 0 (recovers 1)
      ∷ Takes 0 (RecoveryCame 1 (epoch 1) 600) steps.Counts (machine 0 (Recovering (epoch 1) from_the_start) heard)
      ∷ Takes 0 (TimeHasPassed 1000) steps.Asks (machine 0 (Recovering (epoch 1) asks) heard)
      ∷ Takes 1 (WordCame 0 (epoch 1) (Freeze nonce) 1100) (steps.Freezes (Frozen answer))
      (machine 1 (Recovering (epoch 1) freezes) nothing_told)
      ∷ Takes 0 (WordCame 1 (epoch 1) (Frozen answer) 1200) steps.AsksAgain
      (machine 0 (Recovering (epoch 1) asks_again) heard)
      ∷ []

  -- Machine 0 asks once more, gives the epoch up, and says hello in the next one.
  abbrev pub one_leaves : List Move
  one_leaves = Takes 1 (WordCame 0 (epoch 1) (Confirm nonce frozen_so_far) 1300) (steps.Confirms (StillFrozen answer))
      (machine 1 (Recovering (epoch 1) freezes) nothing_told)
      ∷ Takes 0 (WordCame 1 (epoch 1) (StillFrozen answer) 1400) (steps.Ends (epoch 2))
      (machine 0 (Entering (epoch 2) nothing_told) nothing_told)
      ∷ Writes 0
      ∷ Takes 0 StoreHas (steps.Enters (epoch 2)) (machine 0 (Entered (epoch 2) nothing_told) nothing_told)
      ∷ Greets 0 (epoch 2)
      ∷ []

  -- Machine 1 hears that, leaves, too, and begins it.
  abbrev pub one_begins : List Move
  one_begins = Takes 1 (HelloCame 0 (epoch 2) 1500 0) (steps.Hears (epoch 2))
      (machine 1 (Entering (epoch 2) greeted) nothing_told)
      ∷ Writes 1
      ∷ Takes 1 StoreHas (steps.Enters (epoch 2)) (machine 1 (Entered (epoch 2) greeted) nothing_told)
      ∷ Takes 1 (TimeHasPassed 1600) (steps.Begins (epoch 2)) (machine 1 (Beginning (epoch 2)) nothing_told)
      ∷ Writes 1
      ∷ Takes 1 StoreHas (steps.Starts (epoch 2)) (machine 1 (TakingPart (epoch 2)) nothing_told)
      ∷ []

  -- ---- by hand

  -- An operator has machines 0 and 1 begin the next epoch; both come up, machine 0 says hello, and machine 1 begins it.
  -- At its first start it takes part, at its second one it recovers.
  abbrev pub by_hand : List Move
  by_hand = GoesByHand 0 image (keeps.Entered (epoch 2))
      ∷ GoesByHand 1 image (keeps.Entered (epoch 2))
      ∷ Starts 0 (place 0) image 1 0 (machine 0 (Entered (epoch 2) nothing_told) nothing_told)
      ∷ Starts 1 (place 1) image 1 0 (machine 1 (Entered (epoch 2) nothing_told) nothing_told)
      ∷ Greets 0 (epoch 2)
      ∷ Takes 1 (HelloCame 0 (epoch 2) 1500 0) steps.Counts (machine 1 (Entered (epoch 2) greeted) nothing_told)
      ∷ Takes 1 (TimeHasPassed 1600) (steps.Begins (epoch 2)) (machine 1 (Beginning (epoch 2)) nothing_told)
      ∷ Writes 1
      ∷ Takes 1 StoreHas (steps.Starts (epoch 2)) (machine 1 (TakingPart (epoch 2)) nothing_told)
      ∷ Stops 1
      ∷ Starts 1 (place 1) image 2 1700
      (machine 1 (Recovering (epoch 2) (recovering_under (first_nonce 2) 1700)) nothing_told)
      ∷ []

  abbrev pub takes_part_in_epoch_2 : Machine
  takes_part_in_epoch_2 =
      record { store = keeps.Begun (epoch 2); runs = Some (machine 1 (TakingPart (epoch 2)) nothing_told) }

  pub record WorkedEpochs : Type 0 where
    -- behind a power cut
    pub cut : AreTrueMoves 1 in_epoch_1 (both_freeze ++ (one_leaves ++ one_begins))
    pub asking_freezes : IsFrozen (machine_behind 1 in_epoch_1 both_freeze 0) (epoch 1) nonce
    pub asked_freezes : IsFrozen (machine_behind 1 in_epoch_1 both_freeze 1) (epoch 1) nonce
    pub begun : machine_behind 1 in_epoch_1 (both_freeze ++ (one_leaves ++ one_begins)) 1 ≡ takes_part_in_epoch_2
    -- by hand
    pub hand : AreTrueMoves 1 in_epoch_1 by_hand
    pub hand_begun : (machine_behind 1 in_epoch_1 by_hand 1).store ≡ keeps.Begun (epoch 2)
