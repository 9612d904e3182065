-- The machines of a group whose disks may be lost, and the runs that its epochs are, in one order: what each machine does
-- and what befalls it, and what happens in the run of each epoch. In each run there is one replica of each machine.
use Rattle.std.specs.Prelude.{◌≡◌, ℕ, ◌<◌, true, List, [], ◌∷◌, ◌++◌, Some, if◌then◌else◌}
use Rattle.vr_model.specs.Groups.{group_size}
use Rattle.vr_model.specs.Logs.{Request}
use Rattle.vr_model.specs.Replicas.{is_down}
use Rattle.vr_model.specs.World.{World, Event, Completion, happens}
use Rattle.vr_model.specs.Views.{world}
use Rattle.laws_cold_start.specs.ColdStarts.{IsInNoLog, IsNeverCommitted}
use Rattle.net_hello.specs.declared.hello.Epoch.{Epoch}
use Rattle.plc_epochs.specs.declared.kept.Kept.{Kept}
use Rattle.plc_epochs.specs.declared.cold_start.ColdStart.{ColdStart}
use Rattle.plc_epochs.specs.declared.cold_start.Step.TheVariants as steps
use Rattle.plc_epochs.specs.Epochs.{is_later, is_same}
use Rattle.plc_epochs.specs.Table.{spoken_in}
use Rattle.laws_epochs.specs.Machines.{StoreHas, TimeHasPassed, Takes, Machine}
use Rattle.laws_epochs.specs.LostDisks as lost
use Rattle.laws_epochs.specs.LostDisks.{Moves, AreEvents, after_events, with_disks}
use Rattle.laws_epoch_ends.specs.Processes.{IsAt, made_by_move}

-- a machine does something, or something befalls it; or an event happens in the run of an epoch
pub data Deed (C : Type 0) : Type 0 where
  Does : (event : lost.Event) → Deed C
  Happens : (epoch : Epoch) (event : Event C) (completion : Completion) → Deed C

abbrev pub doings_in : {C : Type 0} → List (Deed C) → List lost.Event
doings_in [] = []
doings_in (Does event ∷ deeds) = event ∷ doings_in deeds
doings_in (Happens epoch event completion ∷ deeds) = doings_in deeds

-- the events of one epoch
abbrev pub events_in : {C : Type 0} → Epoch → List (Deed C) → List (Event C × Completion)
events_in epoch [] = []
events_in epoch (Does event ∷ deeds) = events_in epoch deeds
events_in epoch (Happens own event completion ∷ deeds) =
    if is_same own epoch then (event, completion) ∷ events_in epoch deeds else events_in epoch deeds

-- the process of a machine takes part in this epoch
pub record TakesPart (epoch : Epoch) (machine : Machine) : Type 0 where
  pub value : ColdStart
  pub runs : machine.runs ≡ Some value
  pub part : spoken_in value.phase ≡ Some epoch

-- a machine begins this epoch: its replica starts there as a new one
abbrev pub begins : {C : Type 0} → ℕ → Epoch → ColdStart → Deed C
begins i epoch becomes = Does (Moves (Takes i StoreHas (steps.Starts epoch) becomes))

-- by one of these deeds machine i does
pub record BeginsIn {C : Type 0} (deeds : List (Deed C)) (i : ℕ) (epoch : Epoch) : Type 0 where
  pub early : List (Deed C)
  pub becomes : ColdStart
  pub late : List (Deed C)
  pub is : deeds ≡ early ++ begins i epoch becomes ∷ late

-- some machine has begun a later epoch than this one, by one of these deeds
pub record HasLaterBegun {C : Type 0} (epoch : Epoch) (deeds : List (Deed C)) : Type 0 where
  pub early : List (Deed C)
  pub machine : ℕ
  pub now : ℕ
  pub next : Epoch
  pub becomes : ColdStart
  pub late : List (Deed C)
  pub is : deeds ≡ early ++ Does (Moves (Takes machine (TimeHasPassed now) (steps.Begins next) becomes)) ∷ late
  pub later : is_later next epoch ≡ true

-- a group of 2f+1 machines that find these stores at first, and one epoch
module _ {C A : Type 0} (f : ℕ) (answer : List C → A) (stores : ℕ → Kept) (epoch : Epoch) where
  -- a machine, and the run of the epoch, behind these deeds
  abbrev pub machine_then : List (Deed C) → ℕ → Machine
  machine_then deeds i = (after_events f (with_disks stores) (doings_in deeds)).machines.at i

  abbrev pub run_then : List (Deed C) → World C A
  run_then deeds = world f answer (events_in epoch deeds)

  -- machine i takes no part in the epoch behind the early deeds, nor behind any of the late ones
  abbrev pub TakesPartNoMore : List (Deed C) → List (Deed C) → ℕ → Type 0
  TakesPartNoMore early late i = (some rest : List (Deed C)) → late ≡ some ++ rest
      → TakesPart epoch (machine_then (early ++ some) i) → ⊥

  -- Deeds in which a machine whose process takes part in the epoch no more has closed its replica there by the time at
  -- which a later epoch begins: it's down. One that never took part in it counts as down then.
  pub record AreHosted (deeds : List (Deed C)) : Type 0 where
    pub doings : AreEvents f (with_disks stores) (doings_in deeds)
    pub closed : (early late : List (Deed C)) (i : ℕ) → deeds ≡ early ++ late → i < group_size f
        → HasLaterBegun epoch early → TakesPartNoMore early late i
        → is_down ((run_then early).replicas i).status ≡ true

  -- what stood in no log of the epoch up to the early deeds is committed in it by none of the late ones
  abbrev pub NothingNewIn : List (Deed C) → List (Deed C) → Type 0
  NothingNewIn early late = (m : Request C) → IsInNoLog f answer (events_in epoch early) m
      → IsNeverCommitted f answer (events_in epoch early) (events_in epoch late) m

  -- ---- what processes make of the epoch

  abbrev pub made_by_event : World C A → lost.Event → World C A
  made_by_event w (Moves move) = made_by_move f answer epoch w move
  made_by_event w event = w

  abbrev pub made_by_deed : World C A → Deed C → World C A
  made_by_deed w (Does event) = made_by_event w event
  made_by_deed w (Happens own event completion) =
      if is_same own epoch then happens f answer w event completion else w

  -- what processes make of the epoch by these deeds, from this world on
  abbrev pub made_by : World C A → List (Deed C) → World C A
  made_by w [] = w
  made_by w (deed ∷ deeds) = made_by (made_by_deed w deed) deeds

  -- Deeds in which what happens in the epoch to the replica of a machine that begins it by one of them happens once it has
  -- begun it. Of one that begins it by none nothing is presupposed.
  pub record AreOfProcesses (deeds : List (Deed C)) : Type 0 where
    pub doings : AreEvents f (with_disks stores) (doings_in deeds)
    pub behind : (early late : List (Deed C)) (event : Event C) (completion : Completion) (i : ℕ)
        → deeds ≡ early ++ Happens epoch event completion ∷ late → BeginsIn deeds i epoch
        → IsAt (run_then early) event i → BeginsIn early i epoch
