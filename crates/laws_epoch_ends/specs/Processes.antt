-- What the processes of machines make of an epoch: who begins it makes its replica as a new one, and from then on what
-- happens to it goes by the rules.
use Rattle.std.specs.Prelude.{◌≡◌, ℕ, List, [], ◌∷◌, ◌++◌, Some, slice_get, if◌then◌else◌}
use Rattle.vr_model.specs.Messages.{Replica, Message}
use Rattle.vr_model.specs.Replicas.{put}
use Rattle.vr_model.specs.World.{World, Event, Completion, happens, first_replica}
use Rattle.vr_model.specs.World.{Submit, Retry, ClientRestart, Deliver, Timeout, Resend, Crash, Restart, StoreFail}
use Rattle.vr_model.specs.Views.{world}
use Rattle.net_hello.specs.declared.hello.Epoch.{Epoch}
use Rattle.plc_epochs.specs.declared.kept.Kept.{Kept}
use Rattle.plc_epochs.specs.declared.cold_start.ColdStart.{ColdStart}
use Rattle.plc_epochs.specs.declared.cold_start.Step.{Step}
use Rattle.plc_epochs.specs.declared.cold_start.Step.TheVariants as steps
use Rattle.plc_epochs.specs.Epochs.{is_same}
use Rattle.laws_epochs.specs.Machines.{Telling, StoreHas, Move, Takes, AreMoves, at_rest}
use Rattle.laws_epochs.specs.Beginnings.{BeganBefore}
use Rattle.laws_epoch_ends.specs.TrueMoves.{machine_behind}
use Rattle.laws_epoch_ends.specs.Acts.{Act, Moves, Happens, events_in, moves_in}

-- this message was sent to replica i
pub record WentTo {C A : Type 0} (sent : List (Message C A)) (message i : ℕ) : Type 0 where
  pub is : Message C A
  pub sent_is : slice_get sent message ≡ Some is
  pub to_it : is.to ≡ Replica i

-- an event happens to replica i, or to its store
abbrev pub IsAt : {C A : Type 0} → World C A → Event C → ℕ → Type 0
IsAt w (Submit client command) i = ⊥
IsAt w (Retry client) i = ⊥
IsAt w (ClientRestart client) i = ⊥
IsAt w (Deliver message) i = WentTo w.sent message i
IsAt w (Timeout replica) i = i ≡ replica
IsAt w (Resend replica) i = i ≡ replica
IsAt w (Crash replica) i = i ≡ replica
IsAt w (Restart replica nonce) i = i ≡ replica
IsAt w (StoreFail replica keeps_new) i = i ≡ replica

-- replica i is a new one, and its store has no view yet
abbrev pub IsNew : {C A : Type 0} → World C A → ℕ → Type 0
IsNew w i = (w.replicas i ≡ first_replica) × (w.stores i ≡ 0)

-- replica i is made anew, and its store, too, whatever they were
abbrev pub with_new : {C A : Type 0} → World C A → ℕ → World C A
with_new w i = record w { replicas = put w.replicas i first_replica; stores = put w.stores i 0 }

-- by one of these acts machine i begins this epoch
pub record BeginsIn {C : Type 0} (acts : List (Act C)) (i : ℕ) (epoch : Epoch) : Type 0 where
  pub early : List (Act C)
  pub becomes : ColdStart
  pub late : List (Act C)
  pub is : acts ≡ early ++ Moves (Takes i StoreHas (steps.Starts epoch) becomes) ∷ late

module _ {C A : Type 0} (f : ℕ) (answer : List C → A) (epoch : Epoch) where
  -- a machine begins an epoch: its process makes a new replica, if it's this epoch
  abbrev pub made_by_step : World C A → ℕ → Step → World C A
  made_by_step w i (steps.Starts own) = if is_same own epoch then with_new w i else w
  made_by_step w i step = w

  abbrev pub made_by_telling : World C A → ℕ → Telling → Step → World C A
  made_by_telling w i StoreHas step = made_by_step w i step
  made_by_telling w i telling step = w

  abbrev pub made_by_move : World C A → Move → World C A
  made_by_move w (Takes i telling step becomes) = made_by_telling w i telling step
  made_by_move w move = w

  abbrev pub made_by_act : World C A → Act C → World C A
  made_by_act w (Moves move) = made_by_move w move
  made_by_act w (Happens own event completion) =
      if is_same own epoch then happens f answer w event completion else w

  -- what processes make of the epoch by these acts, from this world on
  abbrev pub made_by : World C A → List (Act C) → World C A
  made_by w [] = w
  made_by w (act ∷ acts) = made_by (made_by_act w act) acts

  -- Moves by the table of epochs, in one order with the events of the epoch. What happens there to the replica of a
  -- machine that begins it by one of these acts happens once the machine has begun it. Of one that begins it by none
  -- nothing is presupposed: it had begun it before, its process ended as it began it, or it passes it by.
  pub record AreOfProcesses (stores : ℕ → Kept) (acts : List (Act C)) : Type 0 where
    pub moves : AreMoves f (at_rest stores) (moves_in acts)
    pub behind : (early late : List (Act C)) (event : Event C) (completion : Completion) (i : ℕ)
        → acts ≡ early ++ Happens epoch event completion ∷ late → BeginsIn acts i epoch
        → IsAt (world f answer (events_in epoch early)) event i
        → BeganBefore epoch (machine_behind f stores (moves_in early) i)
