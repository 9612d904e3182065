-- The moves of a group as its threads see them: of what a store keeps only the loads tell.
use Rattle.std.specs.Prelude.{◌≡◌, ℕ, ◌<◌, ◌≤◌, ◌⊎◌, true, false, List, [], ◌∷◌, ◌++◌, length, take, drop, Some}
use Rattle.std.specs.Prelude.{slice_get, Ok, Err}
use Rattle.il_model.specs.declared.command.Command.{Command}
use Rattle.il_model.specs.declared.command.Answer.{Answer}
use Rattle.vr_model.specs.declared.event.Event.{Event}
use Rattle.vr_model.specs.declared.event.Event.TheVariants as event
use Rattle.vr_model.specs.declared.message.Message as code
use Rattle.vr_model.specs.Groups.{group_size}
use Rattle.vr_model.specs.Logs.{Request, IsPrefix}
use Rattle.vr_model.specs.Messages.{Message, Party, Replica, NewState}
use Rattle.vr_model.specs.Replicas.{is_normal, is_down, ReplicaState, put}
use Rattle.vr_model.specs.Rules.{receives}
use Rattle.vr_model.specs.World.{ClientState, executed}
use Rattle.vr_model.specs.Steps.{Input, Takes, TimesOut, Resends, LocalState, after, ends, first_local_state}
use Rattle.vr_model.specs.Steps.{ClientStep, MayClient, client_after, client_sends, first_client, acts}
use Rattle.vr_model.specs.Stores.{Observation, Did, LostStep, LostSave, Crashed, CameUp, StayedDown, shown, KnownState}
use Rattle.vr_model.specs.Stores.{MayShow, next, first_known_state}
use Rattle.vr_model.specs.Interleaving.{Move, OfReplica, OfClient, WasSent, ActionTakesSent, AreMoves, RunAsOne}
use Rattle.vr_model.specs.Interleaving.{steps_of, all_sent}
use Rattle.vr_model.specs.Membership.{Membership}
use Rattle.vr_model.specs.StandsFor.{Stands, AllStandFrom, Fits}
use Rattle.vr_core.specs.StandsFor.{IsSavedAs}
use Rattle.vr_replica.specs.declared.state.Replica.{Replica as CodeReplica}
use Rattle.vr_replica.specs.declared.fault.StepFault.TheVariants as fault
use Rattle.vr_replica.specs.Standing.{StandsFor}
use Rattle.vr_replica.specs.Stepped.{StepResult}

-- One move of the whole, as it shows. Where a message is taken, place is where it stands among all that were sent
-- before.
pub data ObservedMove (C A : Type 0) : Type 0 where
  ByReplica : (replica : ℕ) (observation : Observation C A) (place : ℕ) → ObservedMove C A
  ByClient : (client : ℕ) (client_step : ClientStep C A) (place : ℕ) → ObservedMove C A

module _ {C A : Type 0} where
  -- what was sent at an observation
  abbrev pub said : Observation C A → List (Message C A)
  said (Did x sends) = sends
  said (LostStep x) = []
  said (LostSave x) = []
  said Crashed = []
  said (CameUp x loaded sends) = sends
  said (StayedDown x) = []

  abbrev pub said_by : ObservedMove C A → List (Message C A)
  said_by (ByReplica i g place) = said g
  said_by (ByClient c d place) = d.sends

  abbrev pub all_said : List (ObservedMove C A) → List (Message C A)
  all_said [] = []
  all_said (m ∷ ms) = said_by m ++ all_said ms

  -- what is taken was sent before, to its taker
  abbrev pub InputTakesSent : List (Message C A) → ℕ → Input C A → ℕ → Type 0
  InputTakesSent sent i (Takes m) place = WasSent sent place (Replica i) m
  InputTakesSent sent i TimesOut place = Unit {0}
  InputTakesSent sent i Resends place = Unit {0}

  abbrev pub ObservationTakesSent : List (Message C A) → ℕ → Observation C A → ℕ → Type 0
  ObservationTakesSent sent i (Did x sends) place = InputTakesSent sent i x place
  ObservationTakesSent sent i (LostStep x) place = InputTakesSent sent i x place
  ObservationTakesSent sent i (LostSave x) place = InputTakesSent sent i x place
  ObservationTakesSent sent i Crashed place = Unit {0}
  ObservationTakesSent sent i (CameUp x loaded sends) place = Unit {0}
  ObservationTakesSent sent i (StayedDown x) place = Unit {0}

-- the group of 2f+1 replicas
module _ {C A : Type 0} (f : ℕ) (answer : List C → A) where
  -- each move is right from what is known of its replica by then, or from where its client stands, and what it takes
  -- was sent before
  abbrev pub AreObservedMoves : (ℕ → KnownState C) → (ℕ → ClientState C) → List (Message C A)
      → List (ObservedMove C A) → Type 0
  AreObservedMoves knowns clients sent [] = Unit {0}
  AreObservedMoves knowns clients sent (ByReplica i g place ∷ ms) =
      (i < group_size f) × MayShow f i answer (knowns i) g × ObservationTakesSent sent i g place
      × AreObservedMoves (put knowns i (next f i answer (knowns i) g)) clients (sent ++ said g) ms
  AreObservedMoves knowns clients sent (ByClient c d place ∷ ms) =
      MayClient f c answer (clients c) d.action × (d.sends ≡ client_sends f c answer (clients c) d.action)
      × ActionTakesSent sent c d.action place
      × AreObservedMoves knowns (put clients c (client_after f c answer (clients c) d.action)) (sent ++ d.sends) ms

  -- what is known of each replica then
  abbrev pub knowns_after : (ℕ → KnownState C) → List (ObservedMove C A) → ℕ → KnownState C
  knowns_after knowns [] = knowns
  knowns_after knowns (ByReplica i g place ∷ ms) = knowns_after (put knowns i (next f i answer (knowns i) g)) ms
  knowns_after knowns (ByClient c d place ∷ ms) = knowns_after knowns ms

  -- what shows of moves
  abbrev pub shown_moves : (ℕ → LocalState C) → List (Move C A) → List (ObservedMove C A)
  shown_moves locals [] = []
  shown_moves locals (OfReplica i s place ∷ ms) =
      ByReplica i (shown (locals i) s) place ∷ shown_moves (put locals i (after f i answer (locals i) s)) ms
  shown_moves locals (OfClient c d place ∷ ms) = ByClient c d place ∷ shown_moves locals ms

  -- from the first states on
  abbrev pub AreFromTheFirst : List (ObservedMove C A) → Type 0
  AreFromTheFirst ms = AreObservedMoves (λ i. first_known_state) (λ c. first_client) [] ms

  abbrev pub known_at : List (ObservedMove C A) → ℕ → ReplicaState C
  known_at ms i = (knowns_after (λ i. first_known_state) ms i).replica

  -- These moves are a run of the group of which just this shows, and the one history is theirs: each replica is known
  -- to be where its list ends, and what was said is what was sent.
  pub record IsOneRun (early late : List (ObservedMove C A)) : Type 0 where
    pub first : List (Move C A)
    pub second : List (Move C A)
    pub right : AreMoves f answer (λ i. first_local_state) (λ c. first_client) [] (first ++ second)
    pub shown_first : shown_moves (λ i. first_local_state) first ≡ early
    pub shown_all : shown_moves (λ i. first_local_state) (first ++ second) ≡ early ++ late
    pub one : RunAsOne f answer first second
    pub replicas : (i : ℕ) → (ends f i answer first_local_state (steps_of i first)).replica ≡ known_at early i
    pub sent : all_sent first ≡ all_said early

  -- after some of these moves some replica was known to be normal in this view, and this was its whole log
  pub record WasKnownLog (ms : List (ObservedMove C A)) (view : ℕ) (log : List (Request C)) : Type 0 where
    pub moment : ℕ
    pub replica : ℕ
    pub normal : is_normal (known_at (take moment ms) replica).status ≡ true
    pub view_is : (known_at (take moment ms) replica).view ≡ view
    pub log_is : (known_at (take moment ms) replica).log ≡ log

  -- What the next move may presuppose of a message that was sent. The log that its rule makes begins with all that the
  -- replica has executed; and a NEWSTATE with the end of a log, one that a replica had when it was normal in its view,
  -- leaves its receiver as it was or with that whole log.
  pub record MayPresuppose (ms : List (ObservedMove C A)) : Type 0 where
    pub keeps : (i n : ℕ) (m : Message C A) → is_down (known_at ms i).status ≡ false
        → slice_get (all_said ms) n ≡ Some m → m.to ≡ Replica i
        → IsPrefix (executed (known_at ms i)) (receives f i answer (known_at ms i) m.from m.body).replica.log
    pub hands_on : (i n view op_number commit_number : ℕ) (from : Party) (whole : List (Request C))
        → is_down (known_at ms i).status ≡ false
        → slice_get (all_said ms) n ≡ Some
        (record {
          from = from;
          to = Replica i;
          body = NewState view op_number commit_number (drop op_number whole);
        })
        → op_number ≤ length whole → WasKnownLog ms view whole
        → ((receives f i answer (known_at ms i) from
        (NewState view op_number commit_number (drop op_number whole))).replica ≡ known_at ms i)
        ⊎ ((receives f i answer (known_at ms i) from
        (NewState view op_number commit_number (drop op_number whole))).replica.log ≡ whole)

-- ---- what one step of the code shows, from what is known of its replica

module _ (m : Membership) where
  -- the event is this input of the rules; of a message, one with whole logs that it stands for
  abbrev pub Means : Event → Input Command Answer → Type 0
  Means (event.Message a) x = (meant : Message Command Answer) × Stands IsSavedAs m.group a meant × (x ≡ Takes meant)
  Means event.Timeout x = x ≡ TimesOut
  Means event.Resend x = x ≡ Resends
  Means (event.Restart n) x = ⊥

  -- the checkpoint of a NEWSTATE is of the log that the rule makes of it
  abbrev pub FitsIn : ReplicaState Command → Event → Input Command Answer → Type 0
  FitsIn r (event.Message a) x = Fits IsSavedAs m.group r (acts m.f m.number m.answer r x) a.body
  FitsIn r _ x = Unit {0}

  -- what a step shows by its result: a replica that is down did nothing
  abbrev pub observation_of : ReplicaState Command → Input Command Answer → StepResult → Observation Command Answer
  observation_of r x (Ok sends) = Did x (acts m.f m.number m.answer r x).sends
  observation_of r x (Err fault.Memory) = LostStep x
  observation_of r x (Err fault.Store) = LostSave x
  observation_of r x (Err fault.Down) = Did x []

  -- the observation is right from what was known, the replica stands for where it leads, and has sent what it says
  pub record IsShownAs (k : KnownState Command) (g : Observation Command Answer) (end : CodeReplica)
      (out : List code.Message) : Type 0 where
    pub may : MayShow m.f m.number m.answer k g
    pub stands : StandsFor end m (next m.f m.number m.answer k g).replica
    pub says : AllStandFrom IsSavedAs m.group (next m.f m.number m.answer k g).replica out (said g)
