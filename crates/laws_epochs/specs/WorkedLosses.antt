-- Worked events of a group of three machines: an operator has two of them begin epoch 2; one begins it, and loses its
-- disk. It hears the other one in epoch 2, and the third one in epoch 1, and waits above epoch 2.
use Rattle.std.specs.Prelude.{◌≡◌, ℕ, ◌≤◌, true, false, List, [], ◌∷◌, ◌++◌, Option, Some, None, slice_set}
use Rattle.net_hello.specs.declared.hello.Epoch.{Epoch}
use Rattle.plc_epochs.specs.declared.kept.Kept.{Kept}
use Rattle.plc_epochs.specs.declared.kept.Kept.TheVariants as keeps
use Rattle.plc_epochs.specs.declared.cold_start.ColdStart.{ColdStart}
use Rattle.plc_epochs.specs.declared.cold_start.Phase.{Phase}
use Rattle.plc_epochs.specs.declared.cold_start.Phase.TheVariants.{Waiting, Above, Entered, Beginning, TakingPart}
use Rattle.plc_epochs.specs.declared.cold_start.Phase.TheVariants.{Recovering}
use Rattle.plc_epochs.specs.declared.cold_start.Place.{Place}
use Rattle.plc_epochs.specs.declared.cold_start.Step.TheVariants as steps
use Rattle.plc_epochs.specs.Epochs.{nothing_told}
use Rattle.plc_epochs.specs.Recovering.{first_nonce, recovering_under}
use Rattle.laws_epochs.specs.Machines.{TimeHasPassed, StoreHas, HelloCame}
use Rattle.laws_epochs.specs.Machines.{Starts, Takes, Greets, Writes, GoesByHand}
use Rattle.laws_epochs.specs.LostDisks.{Event, Moves, LosesDisk, Group, CameSince, AreEvents, after_events, with_disks}

-- the image of the one program
abbrev pub image : List ℕ
image = 7 ∷ []

abbrev pub epoch : ℕ → Epoch
epoch number = record { number = number; image = image }

-- all stores have begun epoch 1
abbrev pub in_epoch_1 : ℕ → Kept
in_epoch_1 i = keeps.Begun (epoch 1)

-- f is 1, which is at least 1 and at most 3
module _ (low : 1 ≤ 1) (high : 1 ≤ 3) where
  abbrev pub place : ℕ → Place
  place i = record {
    config = record { f = 1; every = 0; at_least_one = low; at_most_three = high };
    number = i;
    is_automatic = true;
    is_marked = false;
  }

  abbrev pub machine : ℕ → Phase → ColdStart
  machine i phase =
      record { place = place i; image = image; phase = phase; recoveries = nothing_told; parts = nothing_told }

  -- one has heard machine 0 in the epoch that it has entered
  abbrev pub greeted : List (Option ℕ)
  greeted = slice_set nothing_told 0 (Some 1500)

  -- machines 0 and 1 enter epoch 2 by hand, machine 0 says hello, and machine 1 begins it
  abbrev pub one_begins : List Event
  one_begins = Moves (GoesByHand 0 image (keeps.Entered (epoch 2)))
      ∷ Moves (GoesByHand 1 image (keeps.Entered (epoch 2)))
      ∷ Moves (Starts 0 (place 0) image 1 0 (machine 0 (Entered (epoch 2) nothing_told)))
      ∷ Moves (Starts 1 (place 1) image 1 0 (machine 1 (Entered (epoch 2) nothing_told)))
      ∷ Moves (Greets 0 (epoch 2))
      ∷ Moves (Takes 1 (HelloCame 0 (epoch 2) 1500 0) steps.Counts (machine 1 (Entered (epoch 2) greeted)))
      ∷ Moves (Takes 1 (TimeHasPassed 1600) (steps.Begins (epoch 2)) (machine 1 (Beginning (epoch 2))))
      ∷ Moves (Writes 1)
      ∷ Moves (Takes 1 StoreHas (steps.Starts (epoch 2)) (machine 1 (TakingPart (epoch 2))))
      ∷ []

  -- machine 2 comes up in epoch 1, and both others say hello once more
  abbrev pub others_greet : List Event
  others_greet = Moves (Starts 2 (place 2) image 1 2000
      (machine 2 (Recovering (epoch 1) (recovering_under (first_nonce 1) 2000))))
      ∷ Moves (Greets 2 (epoch 1))
      ∷ Moves (Greets 0 (epoch 2))
      ∷ []

  -- it has heard machine 2
  abbrev pub waits_for_one_more : Phase
  waits_for_one_more = Waiting (slice_set nothing_told 2 (Some 2100)) (Some (epoch 1))

  -- machine 1 comes up with a store that waits, and hears both
  abbrev pub one_waits : List Event
  one_waits = Moves (Starts 1 (place 1) image 1 2050 (machine 1 (Waiting nothing_told None)))
      ∷ Moves (Takes 1 (HelloCame 2 (epoch 1) 2100 1) steps.Counts (machine 1 waits_for_one_more))
      ∷ Moves (Takes 1 (HelloCame 0 (epoch 2) 2200 2) (steps.WaitsAbove (epoch 2)) (machine 1 (Above (epoch 2))))
      ∷ Moves (Writes 1)
      ∷ []

  abbrev pub one_is_lost : List Event
  one_is_lost = one_begins ++ LosesDisk 1 ∷ []

  abbrev pub behind : List Event → Group
  behind events = after_events 1 (with_disks in_epoch_1) events

  pub record WorkedLosses : Type 0 where
    pub may : AreEvents 1 (with_disks in_epoch_1) (one_is_lost ++ (others_greet ++ one_waits))
    pub begun : ((behind one_begins).machines.at 1).store ≡ keeps.Begun (epoch 2)
    pub lost : ((behind one_is_lost).machines.at 1).store ≡ keeps.Nothing
    pub waits : ((behind (one_is_lost ++ (others_greet ++ one_waits))).machines.at 1).store ≡ keeps.Above (epoch 2)
    -- the hello by which it began isn't one that it may hear then
    pub old : CameSince (behind one_is_lost) 1 (HelloCame 0 (epoch 2) 2100 0) → ⊥
