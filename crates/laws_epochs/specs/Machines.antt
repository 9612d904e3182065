-- What the machines of a group do about its epochs, in one order: how their processes start, what they are told and what
-- they do then, their hellos, what their stores get, and how their processes end. None of them loses its disk.
use Rattle.std.specs.Prelude.{◌≡◌, ℕ, ◌<◌, List, [], ◌∷◌, ◌++◌, Option, Some, None, Ok, slice_get}
use Rattle.vr_model.specs.Groups.{group_size}
use Rattle.vr_model.specs.Replicas.{put}
use Rattle.net_hello.specs.declared.hello.Epoch.{Epoch}
use Rattle.plc_epochs.specs.declared.kept.Kept.{Kept}
use Rattle.plc_epochs.specs.declared.word.Word.{Word}
use Rattle.plc_epochs.specs.declared.cold_start.ColdStart.{ColdStart}
use Rattle.plc_epochs.specs.declared.cold_start.Greeting.TheVariants.{Hello}
use Rattle.plc_epochs.specs.declared.cold_start.Place.{Place}
use Rattle.plc_epochs.specs.declared.cold_start.Step.{Step}
use Rattle.plc_epochs.specs.declared.cold_start.Step.TheVariants as steps
use Rattle.plc_epochs.specs.Epochs.{by_hand}
use Rattle.plc_epochs.specs.Recovering.{first_nonce}
use Rattle.plc_epochs.specs.Table as table

-- What a machine is told: that time has passed; that its store has what it has now; that another machine said hello, which
-- stands at this place among all hellos; a sign that one takes part; the RECOVERY of one; a word of one; that its own
-- replica has recovered; that its store keeps another image.
pub data Telling : Type 0 where
  TimeHasPassed : (now : ℕ) → Telling
  StoreHas : Telling
  HelloCame : (from : ℕ) (epoch : Epoch) (now place : ℕ) → Telling
  SignCame : (from : ℕ) (epoch : Epoch) (now : ℕ) → Telling
  RecoveryCame : (from : ℕ) (epoch : Epoch) (now : ℕ) → Telling
  WordCame : (from : ℕ) (epoch : Epoch) (word : Word) (now : ℕ) → Telling
  ReplicaRecovered : Telling
  ImageIs : (image : List ℕ) → Telling

-- a machine whose store has this takes this step, by the table of epochs
abbrev pub Follows : Telling → Kept → ColdStart → Step → ColdStart → Type 0
Follows (TimeHasPassed now) store a step b = table.Looks now a step b
Follows StoreHas store a step b = table.Stores store a step b
Follows (HelloCame from epoch now place) store a step b = table.HearsHello from epoch now a step b
Follows (SignCame from epoch now) store a step b = table.HearsSign from epoch now a step b
Follows (RecoveryCame from epoch now) store a step b = table.HearsRecovery from epoch now a step b
Follows (WordCame from epoch word now) store a step b = table.HearsWord from epoch word now a step b
Follows ReplicaRecovered store a step b =
    (step ≡ steps.Nothing) × (b ≡ record a { phase = table.recovered_in a.phase })
Follows (ImageIs image) store a step b = (step ≡ steps.Nothing) × (b ≡ record a { image = image })

-- One move of a machine: its process starts; it's told something, and takes a step; it says hello; its store gets what
-- it was to have; its process is over, in whichever way; or an operator has it begin the next epoch, with this image,
-- while its process is over.
pub data Move : Type 0 where
  Starts : (machine : ℕ) (place : Place) (image : List ℕ) (starts now : ℕ) (becomes : ColdStart) → Move
  Takes : (machine : ℕ) (telling : Telling) (step : Step) (becomes : ColdStart) → Move
  Greets : (machine : ℕ) (epoch : Epoch) → Move
  Writes : (machine : ℕ) → Move
  Stops : (machine : ℕ) → Move
  GoesByHand : (machine : ℕ) (image : List ℕ) (has : Kept) → Move

-- what the store of a machine has of epochs, and what its process is, while that is up
pub record Machine : Type 0 where
  pub store : Kept
  pub runs : Option ColdStart

-- all machines, and the hellos that were said by then, each by its machine in its epoch
pub record Machines : Type 0 where
  pub at : ℕ → Machine
  pub hellos : List (ℕ × Epoch)

-- before any process starts, where the stores have this
abbrev pub at_rest : (ℕ → Kept) → Machines
at_rest stores = record { at = λ i. record { store = stores i; runs = None }; hellos = [] }

-- a hello that comes was said before, by the machine that it names, in the epoch that it names
abbrev pub WasSaid : List (ℕ × Epoch) → Telling → Type 0
WasSaid hellos (HelloCame from epoch now place) = slice_get hellos place ≡ Some (from, epoch)
WasSaid hellos telling = Unit {0}

abbrev pub to_write : Kept → Option ColdStart → Kept
to_write store None = store
to_write store (Some a) = table.kept_in a.phase

-- a group of 2f+1 machines
module _ (f : ℕ) where
  -- A process starts from its own store, and knows its number and its group. One that is up takes steps by the table,
  -- and says hello in the epoch that it tells. An operator is heard where no process is up.
  abbrev pub May : Machines → Move → Type 0
  May w (Starts i place image starts now becomes) =
      (i < group_size f) × ((w.at i).runs ≡ None) × (place.number ≡ i) × (place.config.f ≡ f)
      × table.StartsAs place (w.at i).store image (first_nonce starts) now becomes
  May w (Takes i telling step becomes) =
      (a : ColdStart) × ((w.at i).runs ≡ Some a) × WasSaid w.hellos telling
      × Follows telling (w.at i).store a step becomes
  May w (Greets i epoch) =
      (a : ColdStart) × ((w.at i).runs ≡ Some a) × (table.greeting_in a.phase ≡ Hello epoch)
  May w (Writes i) = Unit {0}
  May w (Stops i) = Unit {0}
  May w (GoesByHand i image has) = ((w.at i).runs ≡ None) × (by_hand (w.at i).store image ≡ Ok has)

  abbrev pub after_move : Machines → Move → Machines
  after_move w (Starts i place image starts now becomes) =
      record w { at = put w.at i (record { store = (w.at i).store; runs = Some becomes }) }
  after_move w (Takes i telling step becomes) =
      record w { at = put w.at i (record { store = (w.at i).store; runs = Some becomes }) }
  after_move w (Greets i epoch) = record w { hellos = w.hellos ++ (i, epoch) ∷ [] }
  after_move w (Writes i) =
      record w { at = put w.at i (record { store = to_write (w.at i).store (w.at i).runs; runs = (w.at i).runs }) }
  after_move w (Stops i) = record w { at = put w.at i (record { store = (w.at i).store; runs = None }) }
  after_move w (GoesByHand i image has) = record w { at = put w.at i (record { store = has; runs = None }) }

  -- each move may be where the one before it led
  abbrev pub AreMoves : Machines → List Move → Type 0
  AreMoves w [] = Unit {0}
  AreMoves w (m ∷ ms) = May w m × AreMoves (after_move w m) ms

  abbrev pub after_moves : Machines → List Move → Machines
  after_moves w [] = w
  after_moves w (m ∷ ms) = after_moves (after_move w m) ms
