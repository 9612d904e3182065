-- What the code of a group's durable machines and of its clients did, in one order, and the deeds that this shows as.
use Rattle.std.specs.Prelude.{◌≡◌, ℕ, ◌<◌, Bool, List, [], ◌∷◌, ◌++◌, Option, Some, None}
use Rattle.il_model.specs.declared.command.Command.{Command}
use Rattle.il_model.specs.declared.command.Answer.{Answer}
use Rattle.vr_model.specs.Checkpoints.{KeptLog}
use Rattle.vr_model.specs.declared.event.Event.{Event}
use Rattle.vr_model.specs.declared.message.Message as sent
use Rattle.vr_model.specs.Groups.{group_size}
use Rattle.vr_model.specs.Membership.{Group, member}
use Rattle.vr_model.specs.Replicas.{put}
use Rattle.vr_model.specs.StandsFor.{AllStand}
use Rattle.vr_model.specs.Steps.{Input, ClientStep, MayClient, client_after, client_sends, first_client}
use Rattle.vr_model.specs.World.{ClientState, first_replica}
use Rattle.laws_pauses.specs.Pauses.{begun}
use Rattle.vr_core.specs.declared.state.Core.{Core}
use Rattle.vr_core.specs.StandsFor.{IsOf, IsSavedAs}
use Rattle.vr_pausing.specs.declared.marking.Marks.{Marks}
use Rattle.vr_resumed.specs.Resuming.{GoesOn, Means}
use Rattle.vr_durable.specs.declared.durable.Durable.{Durable}
use Rattle.vr_durable.specs.Calls.{ReadsBack}
use Rattle.vr_durable.specs.Standing.{HandsOut, Stands, Stays, TakesUp}
use Rattle.laws_durable.specs.DurableMoves as moves
use Rattle.laws_durable.specs.DurableMoves.{DurableMove, AreDurableMoves, AreOneRun, HearsHanded, TakesHanded}
use Rattle.laws_durable.specs.DurableMoves.{all_handed, machine_behind}

-- What became of a durable replica, with what that leaves: it began, as one that took up nothing yet; an event was
-- taken up; all that was held was handed out, or nothing; it stayed as it was, as where a flush began or was over; its
-- file was left for another one, with what it is as the base; or, behind a power cut that left so much of what wasn't
-- flushed, its next process went on from the base and the events that it read.
pub data Happening : Type 0 where
  Began : (leaves : Durable) → Happening
  TookUp : (event : Event) (leaves : Durable) → Happening
  HandedOut : (out : List sent.Message) (leaves : Durable) → Happening
  Stayed : (leaves : Durable) → Happening
  Rebased : (leaves : Durable) → Happening
  Resumed : (survives : ℕ → Bool) (core : Core) (marks : Marks) (log : KeptLog) (events : List Event)
      (leaves : Durable) → Happening

-- one move of the whole: a client's step has what it sent
pub data CodeMove : Type 0 where
  OfMachine : (machine : ℕ) (happening : Happening) → CodeMove
  OfClient : (client : ℕ) (client_step : ClientStep Command Answer) (out : List sent.Message) → CodeMove

-- ---- what a move leaves

abbrev pub left_by : Happening → Durable
left_by (Began new) = new
left_by (TookUp e new) = new
left_by (HandedOut out new) = new
left_by (Stayed new) = new
left_by (Rebased new) = new
left_by (Resumed survives core marks log es new) = new

abbrev pub handed_in : Happening → List sent.Message
handed_in (Began new) = []
handed_in (TookUp e new) = []
handed_in (HandedOut out new) = out
handed_in (Stayed new) = []
handed_in (Rebased new) = []
handed_in (Resumed survives core marks log es new) = []

abbrev pub handed_by : CodeMove → List sent.Message
handed_by (OfMachine i h) = handed_in h
handed_by (OfClient c d out) = out

abbrev pub values_with : (ℕ → Option Durable) → CodeMove → ℕ → Option Durable
values_with values (OfMachine i h) = put values i (Some (left_by h))
values_with values (OfClient c d out) = values

module _ (g : Group) where
  abbrev pub clients_with : (ℕ → ClientState Command) → CodeMove → ℕ → ClientState Command
  clients_with clients (OfMachine i h) = clients
  clients_with clients (OfClient c d out) = put clients c (client_after g.f c g.answer (clients c) d.action)

  -- ---- where the moves of laws_durable have the same

  -- the clients behind such moves
  abbrev pub clients_from : (ℕ → ClientState Command) → List (DurableMove Command Answer) → ℕ → ClientState Command
  clients_from clients [] = clients
  clients_from clients (moves.OfMachine i d ∷ ms) = clients_from clients ms
  clients_from clients (moves.OfClient c d ∷ ms) =
      clients_from (put clients c (client_after g.f c g.answer (clients c) d.action)) ms

  -- These moves are right, and behind them each value stands for its machine's life, the clients are there, and what
  -- was handed out stands for what left its sender.
  pub record At (values : ℕ → Option Durable) (clients : ℕ → ClientState Command) (out : List sent.Message)
      (ms : List (DurableMove Command Answer)) : Type 0 where
    pub right : AreDurableMoves g.f g.answer ms
    pub stands : (i : ℕ) (d : Durable) → values i ≡ Some d
        → Stands d (member g i) (machine_behind g.f g.answer ms i).life
    pub unstarted : (i : ℕ) → values i ≡ None → (machine_behind g.f g.answer ms i).life ≡ begun first_replica
    pub client : (c : ℕ) → clients_from (λ c. first_client) ms c ≡ clients c
    pub said : AllStand IsSavedAs g out (all_handed g.f g.answer ms)

  -- ---- each move by its clause, and what is presupposed of it

  -- a call of a value that runs, by its clause; and a start behind a power cut by that of who goes on
  abbrev pub IsCalled : Durable → ℕ → Happening → Type 0
  IsCalled d i (Began new) = ⊥
  IsCalled d i (TookUp e new) = TakesUp d e new
  IsCalled d i (HandedOut out new) = HandsOut d new out
  IsCalled d i (Stayed new) = Stays d new
  IsCalled d i (Rebased new) = Stays d new
  IsCalled d i (Resumed survives core marks log es new) =
      IsOf core (member g i) × (new.outbox.held ≡ []) × GoesOn core marks log es new.replica

  -- where none runs yet the machine begins
  abbrev pub Happens : Option Durable → ℕ → Happening → Type 0
  Happens (Some d) i h = IsCalled d i h
  Happens None i (Began new) = Stands new (member g i) (begun first_replica)
  Happens None i _ = ⊥

  abbrev pub IsByClause : (ℕ → Option Durable) → (ℕ → ClientState Command) → CodeMove → Type 0
  IsByClause values clients (OfMachine i h) = (i < group_size g.f) × Happens (values i) i h
  IsByClause values clients (OfClient c d out) =
      MayClient g.f c g.answer (clients c) d.action × (d.sends ≡ client_sends g.f c g.answer (clients c) d.action)
      × AllStand IsSavedAs g out d.sends

  -- An event means an input, and its message left its sender before, to this machine; what is read behind a power cut
  -- is what was flushed, which is trusted of a disk; and what a client hears left its sender before.
  abbrev pub MayBe : List (DurableMove Command Answer) → CodeMove → Type 0
  MayBe ms (OfMachine i (TookUp e new)) = (x : Input Command Answer)
      × Means (member g i) (machine_behind g.f g.answer ms i).life.now e x × TakesHanded (all_handed g.f g.answer ms) i x
  MayBe ms (OfMachine i (Resumed survives core marks log es new)) =
      ReadsBack (member g i) (machine_behind g.f g.answer ms i).life survives marks log es
  MayBe ms (OfMachine i _) = Unit {0}
  MayBe ms (OfClient c d out) = HearsHanded (all_handed g.f g.answer ms) c d.action

  -- each is by its clause from where its machine or client is by then, and what's presupposed of it holds wherever the
  -- moves before it have led
  abbrev pub AreMovesOf : (ℕ → Option Durable) → (ℕ → ClientState Command) → List sent.Message → List CodeMove → Type 0
  AreMovesOf values clients out [] = Unit {0}
  AreMovesOf values clients out (c ∷ cs) = IsByClause values clients c
      × ((ms : List (DurableMove Command Answer)) → At values clients out ms → MayBe ms c)
      × AreMovesOf (values_with values c) (clients_with clients c) (out ++ handed_by c) cs

  -- from before the first start of each machine on
  abbrev pub AreFromTheStart : List CodeMove → Type 0
  AreFromTheStart cs = AreMovesOf (λ i. None) (λ c. first_client) [] cs

  -- where the values, the clients and the messages are behind all of them
  abbrev pub values_after : (ℕ → Option Durable) → List CodeMove → ℕ → Option Durable
  values_after values [] = values
  values_after values (c ∷ cs) = values_after (values_with values c) cs

  abbrev pub clients_behind : (ℕ → ClientState Command) → List CodeMove → ℕ → ClientState Command
  clients_behind clients [] = clients
  clients_behind clients (c ∷ cs) = clients_behind (clients_with clients c) cs

  abbrev pub all_out : List sent.Message → List CodeMove → List sent.Message
  all_out out [] = out
  all_out out (c ∷ cs) = all_out (out ++ handed_by c) cs

  -- They show as deeds of machines and steps of clients, which are one run of the group over all power cuts; each value
  -- stands for its machine's life in it, and what was handed out for what was said.
  pub record ShowAsOneRun (cs : List CodeMove) : Type 0 where
    pub shown : List (DurableMove Command Answer)
    pub at : At (values_after (λ i. None) cs) (clients_behind (λ c. first_client) cs) (all_out [] cs) shown
    pub one : AreOneRun g.f g.answer shown []
