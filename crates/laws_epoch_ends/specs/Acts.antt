-- The machines of a group, and the runs that its epochs are, in one order: what each machine does, and what happens in
-- the run of each epoch. In each run there is one replica of each machine.
use Rattle.std.specs.Prelude.{◌≡◌, ℕ, ◌<◌, true, List, [], ◌∷◌, ◌++◌, None, if◌then◌else◌}
use Rattle.vr_model.specs.Groups.{group_size}
use Rattle.vr_model.specs.Replicas.{is_down, ReplicaState}
use Rattle.vr_model.specs.World.{World, Event, Completion, Done}
use Rattle.vr_model.specs.Views.{world}
use Rattle.laws_cold_start.specs.ColdStarts.{HandsAnswer, IsOutUnder}
use Rattle.net_hello.specs.declared.hello.Epoch.{Epoch}
use Rattle.plc_epochs.specs.declared.kept.Kept.{Kept}
use Rattle.plc_epochs.specs.declared.recovery.Recovery.{Recovery}
use Rattle.plc_epochs.specs.Epochs.{is_later, is_same}
use Rattle.laws_epochs.specs.Machines.{Move, Machine}
use Rattle.laws_epochs.specs.Beginnings.{HasCome}
use Rattle.laws_epoch_ends.specs.TrueMoves.{AreTrueMoves, machine_behind}
use Rattle.laws_epoch_ends.specs.Freezing.{IsFrozen, Recovers}

-- a machine makes a move; or an event happens in the run of an epoch
pub data Act (C : Type 0) : Type 0 where
  Moves : (move : Move) → Act C
  Happens : (epoch : Epoch) (event : Event C) (completion : Completion) → Act C

abbrev pub moves_in : {C : Type 0} → List (Act C) → List Move
moves_in [] = []
moves_in (Moves move ∷ acts) = move ∷ moves_in acts
moves_in (Happens epoch event completion ∷ acts) = moves_in acts

-- the events of one epoch
abbrev pub events_in : {C : Type 0} → Epoch → List (Act C) → List (Event C × Completion)
events_in epoch [] = []
events_in epoch (Moves move ∷ acts) = events_in epoch acts
events_in epoch (Happens own event completion ∷ acts) =
    if is_same own epoch then (event, completion) ∷ events_in epoch acts else events_in epoch acts

-- the store has come to an epoch later than this one
abbrev pub HasLeft : Epoch → Kept → Type 0
HasLeft epoch store = (later : Epoch) × (is_later later epoch ≡ true) × HasCome later store

-- an answer may be handed to its replica: the machine recovers in this epoch, under this nonce, and isn't frozen
pub record MayBeAnswered (machine : Machine) (epoch : Epoch) (nonce : ℕ) : Type 0 where
  pub recovery : Recovery
  pub recovers : Recovers machine epoch recovery
  pub nonce_is : recovery.nonce ≡ nonce
  pub unfrozen : recovery.frozen ≡ None

-- A group of 2f+1 machines that find these stores at first, and one epoch, which none of them has left then. To each
-- nonce of a machine one of its replica's belongs.
module _ {C A : Type 0} (f : ℕ) (answer : List C → A) (stores : ℕ → Kept) (belongs : ℕ → ℕ → ℕ) (epoch : Epoch) where
  -- a machine, and the run of the epoch, behind these acts
  abbrev pub machine_then : List (Act C) → ℕ → Machine
  machine_then acts i = machine_behind f stores (moves_in acts) i

  abbrev pub run_then : List (Act C) → World C A
  run_then acts = world f answer (events_in epoch acts)

  -- The replica of a machine that is frozen in the epoch recovers under the nonce that belongs to its machine's, or is
  -- down. Whoever left the epoch has closed its replica; one that never began it counts as down.
  pub record GoesWith (i : ℕ) (machine : Machine) (replica : ReplicaState C) : Type 0 where
    pub frozen : (nonce : ℕ) → IsFrozen machine epoch nonce → IsOutUnder replica (belongs i nonce)
    pub left : HasLeft epoch machine.store → is_down replica.status ≡ true

  -- Acts in which at each moment each replica of the epoch goes with its machine; and none is handed an answer to the
  -- nonce under which it recovers but while its machine takes answers under the nonce to which that one belongs.
  pub record AreHosted (acts : List (Act C)) : Type 0 where
    pub machines : AreTrueMoves f stores (moves_in acts)
    pub one_each : (i nonce other : ℕ) → belongs i nonce ≡ belongs i other → nonce ≡ other
    pub go : (early late : List (Act C)) (i : ℕ) → acts ≡ early ++ late → i < group_size f
        → GoesWith i (machine_then early i) ((run_then early).replicas i)
    pub answers : (early late : List (Act C)) (event : Event C) (i replied : ℕ)
        → acts ≡ early ++ Happens epoch event Done ∷ late → i < group_size f
        → HandsAnswer (run_then early) event i replied
        → (nonce : ℕ) × (belongs i nonce ≡ replied) × MayBeAnswered (machine_then early i) epoch nonce
