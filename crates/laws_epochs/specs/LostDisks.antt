-- What the machines of a group do about its epochs where disks are lost: each of their moves, that a disk is lost, and
-- that an operator names an epoch.
use Rattle.std.specs.Prelude.{◌≡◌, ℕ, ◌+◌, ◌<◌, ◌≤◌, Bool, true, List, [], ◌∷◌, ◌++◌, Some, None, length, slice_get}
use Rattle.vr_model.specs.Groups.{group_size, how_many}
use Rattle.vr_model.specs.Replicas.{put}
use Rattle.net_hello.specs.declared.hello.Epoch.{Epoch}
use Rattle.plc_epochs.specs.declared.kept.Kept.{Kept}
use Rattle.plc_epochs.specs.declared.kept.Kept.TheVariants as keeps
use Rattle.plc_epochs.specs.declared.cold_start.ColdStart.{ColdStart}
use Rattle.plc_epochs.specs.declared.cold_start.Phase.{Phase}
use Rattle.plc_epochs.specs.declared.cold_start.Phase.TheVariants.{Entered}
use Rattle.plc_epochs.specs.declared.cold_start.Step.{Step}
use Rattle.plc_epochs.specs.declared.cold_start.Step.TheVariants as steps
use Rattle.plc_epochs.specs.Epochs.{is_later}
use Rattle.plc_epochs.specs.Table.{spoken_in}
use Rattle.laws_epochs.specs.Machines.{Telling, HelloCame, Move, Starts, Takes, Greets, Writes, Stops, GoesByHand}
use Rattle.laws_epochs.specs.Machines.{Machine, Machines, May, after_move, at_rest}
use Rattle.laws_epochs.specs.Beginnings.{IsNoEarlier}

-- One event: a machine moves; or its disk is lost: its process is over then, and it gets a store that waits, one that
-- knows of no epoch; or an operator has it begin an epoch that he names, whatever its store has, while its process is
-- over. The last is the way out where f+1 disks are lost.
pub data Event : Type 0 where
  Moves : (move : Move) → Event
  LosesDisk : (machine : ℕ) → Event
  GoesTo : (machine : ℕ) (epoch : Epoch) → Event

-- all machines, and of each how many hellos had been said as its disk was lost last
pub record Group : Type 0 where
  pub machines : Machines
  pub lost : ℕ → ℕ

-- before any process starts; no disk was lost yet
abbrev pub with_disks : (ℕ → Kept) → Group
with_disks stores = record { machines = at_rest stores; lost = λ i. 0 }

-- ---- what a hello is worth

-- it was said since this machine lost its own disk, if it did
abbrev pub CameSince : Group → ℕ → Telling → Type 0
CameSince w machine (HelloCame from epoch now place) = w.lost machine ≤ place
CameSince w machine telling = Unit {0}

-- this machine said hello in this epoch, and hasn't lost its disk since
pub record StandsBy (w : Group) (machine : ℕ) (epoch : Epoch) : Type 0 where
  pub place : ℕ
  pub said : slice_get w.machines.hellos place ≡ Some (machine, epoch)
  pub since : w.lost machine ≤ place

-- it has entered an epoch, and has heard this machine in it
abbrev pub HasHeard : Phase → ℕ → Type 0
HasHeard (Entered epoch heard) machine = (came : ℕ) × (slice_get heard machine ≡ Some (Some came))
HasHeard phase machine = ⊥

-- where it begins an epoch: each machine that it has heard there stands by its hello
abbrev pub AllStandBy : Group → ℕ → Step → Type 0
AllStandBy w machine (steps.Begins epoch) = (a : ColdStart) (other : ℕ) → (w.machines.at machine).runs ≡ Some a
    → HasHeard a.phase other → StandsBy w other epoch
AllStandBy w machine step = Unit {0}

-- No hello is heard across the loss of a disk: neither of who hears it, nor, where an epoch begins by it, of who said
-- it.
abbrev pub HellosHold : Group → Move → Type 0
HellosHold w (Starts machine place image starts now becomes) = Unit {0}
HellosHold w (Takes machine telling step becomes) = CameSince w machine telling × AllStandBy w machine step
HellosHold w (Greets machine epoch) = Unit {0}
HellosHold w (Writes machine) = Unit {0}
HellosHold w (Stops machine) = Unit {0}
HellosHold w (GoesByHand machine image has) = Unit {0}

-- What an operator names: an epoch that is later than the one of the store; and where that knows of none, later than
-- each one in which any machine has said hello by then.
abbrev pub IsAbove : List (ℕ × Epoch) → Kept → Epoch → Type 0
IsAbove hellos keeps.Nothing epoch = (place : ℕ) (said : ℕ × Epoch) → slice_get hellos place ≡ Some said
    → is_later epoch said.1 ≡ true
IsAbove hellos (keeps.Above own) epoch = is_later epoch own ≡ true
IsAbove hellos (keeps.Entered own) epoch = is_later epoch own ≡ true
IsAbove hellos (keeps.Begun own) epoch = is_later epoch own ≡ true

-- ---- a group of 2f+1 machines

module _ (f : ℕ) where
  -- A machine may move as where no disk is lost, by hellos that hold; any disk may be lost at any moment; and an
  -- operator is heard where no process is up.
  abbrev pub MayBe : Group → Event → Type 0
  MayBe w (Moves move) = May f w.machines move × HellosHold w move
  MayBe w (LosesDisk machine) = Unit {0}
  MayBe w (GoesTo machine epoch) =
      ((w.machines.at machine).runs ≡ None) × IsAbove w.machines.hellos (w.machines.at machine).store epoch

  abbrev pub after_event : Group → Event → Group
  after_event w (Moves move) = record w { machines = after_move f w.machines move }
  after_event w (LosesDisk machine) = record {
    machines = record {
      at = put w.machines.at machine (record { store = keeps.Nothing; runs = None });
      hellos = w.machines.hellos;
    };
    lost = put w.lost machine (length w.machines.hellos);
  }
  after_event w (GoesTo machine epoch) = record w {
    machines = record {
      at = put w.machines.at machine (record { store = keeps.Entered epoch; runs = None });
      hellos = w.machines.hellos;
    };
  }

  -- each event may be where the one before it led
  abbrev pub AreEvents : Group → List Event → Type 0
  AreEvents w [] = Unit {0}
  AreEvents w (e ∷ es) = MayBe w e × AreEvents (after_event w e) es

  abbrev pub after_events : Group → List Event → Group
  after_events w [] = w
  after_events w (e ∷ es) = after_events (after_event w e) es

-- ---- what they keep to

-- A store has this epoch or a later one; or its disk was lost, and it waits, above that epoch or a later one once it
-- knows above which.
abbrev pub HasComeOrWaits : Epoch → Kept → Type 0
HasComeOrWaits epoch keeps.Nothing = Unit {0}
HasComeOrWaits epoch (keeps.Above above) = IsNoEarlier above epoch
HasComeOrWaits epoch (keeps.Entered own) = IsNoEarlier own epoch
HasComeOrWaits epoch (keeps.Begun own) = IsNoEarlier own epoch

-- so has the store of a machine, and its process takes part in no epoch before this one
pub record KeepsTo (epoch : Epoch) (machine : Machine) : Type 0 where
  pub store : HasComeOrWaits epoch machine.store
  pub part : (a : ColdStart) (own : Epoch) → machine.runs ≡ Some a → spoken_in a.phase ≡ Some own
      → IsNoEarlier own epoch

-- As this event comes behind the early ones, f+1 machines keep to this epoch, whatever comes: other disks may be lost,
-- and theirs, too.
pub record MajorityKeeps (f : ℕ) (stores : ℕ → Kept) (early : List Event) (event : Event) (epoch : Epoch) : Type 0 where
  pub who : ℕ → Bool
  pub many : f + 1 ≤ how_many who (group_size f)
  pub keeps : (late : List Event) (i : ℕ) → AreEvents f (with_disks stores) (early ++ event ∷ late) → i < group_size f
      → who i ≡ true → KeepsTo epoch ((after_events f (with_disks stores) (early ++ event ∷ late)).machines.at i)
