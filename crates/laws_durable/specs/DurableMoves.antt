-- The moves of a group whose machines are durable or plain, in one order, and what they come to.
use Rattle.std.specs.Prelude.{◌≡◌, ℕ, ◌<◌, List, [], ◌∷◌, ◌++◌, Contains}
use Rattle.vr_model.specs.Groups.{group_size}
use Rattle.vr_model.specs.Messages.{Message, Replica, Client}
use Rattle.vr_model.specs.Replicas.{put}
use Rattle.vr_model.specs.World.{ClientState}
use Rattle.vr_model.specs.Steps.{Input, Takes, TimesOut, Resends, ClientStep, ClientAction, Hears, MayClient}
use Rattle.vr_model.specs.Steps.{client_after, client_sends, first_client}
use Rattle.vr_model.specs.Stores.{Observation, Did, LostStep, LostSave, Crashed, CameUp, StayedDown}
use Rattle.laws_pauses.specs.Pauses.{durable, inputs, replayed}
use Rattle.laws_threads.specs.ObservedMoves.{ObservedMove, ByReplica, ByClient, IsOneRun, all_said, known_at}
use Rattle.laws_durable.specs.Machines.{Deed, TakesUp, HandsOut, Rebases, Resumes, Shows, Machine, first_machine, leaves}
use Rattle.laws_durable.specs.Machines.{machine_after, MayDo}

-- one move of the whole
pub data DurableMove (C A : Type 0) : Type 0 where
  OfMachine : (machine : ℕ) (deed : Deed C A) → DurableMove C A
  OfClient : (client : ℕ) (client_step : ClientStep C A) → DurableMove C A

module _ {C A : Type 0} where
  -- a message that a machine takes left its sender before, to this machine
  abbrev pub TakesHanded : List (Message C A) → ℕ → Input C A → Type 0
  TakesHanded handed i (Takes m) = Contains handed m × (m.to ≡ Replica i)
  TakesHanded handed i TimesOut = Unit {0}
  TakesHanded handed i Resends = Unit {0}

  abbrev pub ShowsHanded : List (Message C A) → ℕ → Observation C A → Type 0
  ShowsHanded handed i (Did x sends) = TakesHanded handed i x
  ShowsHanded handed i (LostStep x) = TakesHanded handed i x
  ShowsHanded handed i (LostSave x) = TakesHanded handed i x
  ShowsHanded handed i Crashed = Unit {0}
  ShowsHanded handed i (CameUp x loaded sends) = Unit {0}
  ShowsHanded handed i (StayedDown x) = Unit {0}

  abbrev pub DeedTakesHanded : List (Message C A) → ℕ → Deed C A → Type 0
  DeedTakesHanded handed i (TakesUp x w) = TakesHanded handed i x
  DeedTakesHanded handed i HandsOut = Unit {0}
  DeedTakesHanded handed i Rebases = Unit {0}
  DeedTakesHanded handed i (Resumes survives base xs) = Unit {0}
  DeedTakesHanded handed i (Shows g) = ShowsHanded handed i g

  -- and so one that a client hears
  abbrev pub HearsHanded : List (Message C A) → ℕ → ClientAction C A → Type 0
  HearsHanded handed c (Hears m) = Contains handed m × (m.to ≡ Client c)
  HearsHanded handed c _ = Unit {0}

  -- what each client did, in order
  abbrev pub clients_in : List (DurableMove C A) → List (ℕ × ClientStep C A)
  clients_in [] = []
  clients_in (OfMachine i d ∷ ms) = clients_in ms
  clients_in (OfClient c d ∷ ms) = (c, d) ∷ clients_in ms

  abbrev pub observed_clients : List (ObservedMove C A) → List (ℕ × ClientStep C A)
  observed_clients [] = []
  observed_clients (ByReplica i g place ∷ os) = observed_clients os
  observed_clients (ByClient c d place ∷ os) = (c, d) ∷ observed_clients os

-- the group of 2f+1 machines
module _ {C A : Type 0} (f : ℕ) (answer : List C → A) where
  -- each move is right from where its machine or its client stands by then, and what is taken left its sender before
  abbrev pub AreMovesFrom : (ℕ → Machine C A) → (ℕ → ClientState C) → List (Message C A) → List (DurableMove C A)
      → Type 0
  AreMovesFrom machines clients handed [] = Unit {0}
  AreMovesFrom machines clients handed (OfMachine i d ∷ ms) =
      (i < group_size f) × MayDo f i answer (machines i) d × DeedTakesHanded handed i d
      × AreMovesFrom (put machines i (machine_after f i answer (machines i) d)) clients
      (handed ++ leaves (machines i) d) ms
  AreMovesFrom machines clients handed (OfClient c d ∷ ms) =
      MayClient f c answer (clients c) d.action × (d.sends ≡ client_sends f c answer (clients c) d.action)
      × HearsHanded handed c d.action
      × AreMovesFrom machines (put clients c (client_after f c answer (clients c) d.action)) (handed ++ d.sends) ms

  -- from before the first start of each machine on
  abbrev pub AreDurableMoves : List (DurableMove C A) → Type 0
  AreDurableMoves ms = AreMovesFrom (λ i. first_machine) (λ c. first_client) [] ms

  -- where each machine is behind these moves
  abbrev pub machines_after : (ℕ → Machine C A) → List (DurableMove C A) → ℕ → Machine C A
  machines_after machines [] = machines
  machines_after machines (OfMachine i d ∷ ms) =
      machines_after (put machines i (machine_after f i answer (machines i) d)) ms
  machines_after machines (OfClient c d ∷ ms) = machines_after machines ms

  abbrev pub machine_behind : List (DurableMove C A) → ℕ → Machine C A
  machine_behind ms i = machines_after (λ i. first_machine) ms i

  -- all that left its sender in these moves, in order
  abbrev pub handed_from : (ℕ → Machine C A) → List (DurableMove C A) → List (Message C A)
  handed_from machines [] = []
  handed_from machines (OfMachine i d ∷ ms) =
      leaves (machines i) d ++ handed_from (put machines i (machine_after f i answer (machines i) d)) ms
  handed_from machines (OfClient c d ∷ ms) = d.sends ++ handed_from machines ms

  abbrev pub all_handed : List (DurableMove C A) → List (Message C A)
  all_handed ms = handed_from (λ i. first_machine) ms

  -- The moves show as observed moves that are one run of the group, with one history, over all power cuts.
  pub record AreOneRun (early late : List (DurableMove C A)) : Type 0 where
    pub first : List (ObservedMove C A)
    pub second : List (ObservedMove C A)
    pub run : IsOneRun f answer first second
    -- what is settled of each machine is what is known of its replica in the run
    pub settled : (i : ℕ) → (machine_behind early i).known.replica ≡ known_at f answer first i
    -- what its store makes of that is the same
    pub stored : (i : ℕ) → durable f i answer (machine_behind early i).life ≡ known_at f answer first i
    -- and in memory it's that, with what it took up since: so one that just resumed is where the run has it
    pub now : (i : ℕ) → (machine_behind early i).life.now
        ≡ replayed f i answer (known_at f answer first i) (inputs (machine_behind early i).life.unflushed)
    -- what left a machine or a client was said in the run
    pub handed : (m : Message C A) → Contains (all_handed early) m → Contains (all_said first) m
    -- and what the clients did is what they do in it
    pub clients : observed_clients first ≡ clients_in early
