-- The moves of a group's code, in one order: starts of replicas from their stores, steps of replicas, the one within
-- which a process is killed, and steps of clients.
use Rattle.std.specs.Prelude.{◌≡◌, ℕ, ◌<◌, Bool, true, false, List, [], ◌∷◌, ◌++◌, Option, Some, None, slice_get}
use Rattle.il_model.specs.declared.command.Command.{Command}
use Rattle.il_model.specs.declared.command.Answer.{Answer}
use Rattle.vr_model.specs.declared.event.Event.{Event}
use Rattle.vr_model.specs.declared.event.Event.TheVariants as event
use Rattle.vr_model.specs.declared.event.Stored.{Stored}
use Rattle.vr_model.specs.declared.message.Message as code
use Rattle.vr_model.specs.declared.message.Party.TheVariants as party
use Rattle.vr_model.specs.Groups.{group_size}
use Rattle.vr_model.specs.Logs.{Request}
use Rattle.vr_model.specs.Membership.{Group, member}
use Rattle.vr_model.specs.Messages.{Client}
use Rattle.vr_model.specs.Replicas.{put}
use Rattle.vr_model.specs.World.{ClientState}
use Rattle.vr_model.specs.Steps.{ClientAction, Hears, ClientStep, MayClient}
use Rattle.vr_model.specs.Steps.{client_after}
use Rattle.vr_model.specs.Steps.{client_sends, first_client}
use Rattle.vr_model.specs.Stores.{only}
use Rattle.vr_model.specs.StandsFor.{party_of, message_with, AllStand}
use Rattle.vr_core.specs.StandsFor.{IsSavedAs}
use Rattle.vr_replica.specs.declared.state.Replica.{Replica}
use Rattle.vr_replica.specs.Standing.{StandsFor}
use Rattle.vr_replica.specs.Stepped.{StepResult}
use Rattle.vr_serving.specs.Serving.{StepsTo, sends_in}
use Rattle.vr_threads.specs.Working.{HasStarted}
use Rattle.laws_threads.specs.ObservedMoves.{ObservedMove, ByReplica, ByClient, IsOneRun, known_at, all_said}

-- One move. Where a message is taken, place is where it stands among all that were handed out before. A replica dies
-- where its process is killed within the step on an event, and leaves this store.
pub data CodeMove (S : Type 0) : Type 0 where
  Starts : (replica : ℕ) (comes : Replica) (found left : S) (nonce starts : Option ℕ) → CodeMove S
  Steps : (replica : ℕ) (event : Event) (place : ℕ) (becomes : Replica) (left : S) (result : StepResult) → CodeMove S
  Dies : (replica : ℕ) (event : Event) (place : ℕ) (left : S) → CodeMove S
  Serves : (client : ℕ) (client_step : ClientStep Command Answer) (out : List code.Message) (place : ℕ) → CodeMove S

-- what there is of a replica that was started: the value, or none where its process was killed; its store; and the
-- nonce that it has yet to come up with
pub record Seat (S : Type 0) : Type 0 where
  pub replica : Option Replica
  pub store : S
  pub waits : Option ℕ

abbrev pub runs : {S : Type 0} → Replica → S → Option ℕ → Seat S
runs q s waits = record { replica = Some q; store = s; waits = waits }

abbrev pub killed : {S : Type 0} → S → Seat S
killed s = record { replica = None; store = s; waits = None }

-- the nonces that were given, with this one
abbrev pub given_with : (ℕ → Bool) → Option ℕ → ℕ → Bool
given_with given None = given
given_with given (Some n) = put given n true

abbrev pub IsUnused : (ℕ → Bool) → Option ℕ → Type 0
IsUnused given None = Unit {0}
IsUnused given (Some n) = given n ≡ false

-- A message that is taken was handed out before, to its taker. A replica that has yet to come up does that first.
abbrev pub TakesHanded : List code.Message → ℕ → Option ℕ → Event → ℕ → Type 0
TakesHanded sent i waits (event.Message a) place =
    (waits ≡ None) × (slice_get sent place ≡ Some a) × (a.to ≡ party.Replica i)
TakesHanded sent i waits event.Timeout place = waits ≡ None
TakesHanded sent i waits event.Resend place = waits ≡ None
TakesHanded sent i waits (event.Restart n) place = waits ≡ Some n

-- what a client hears was handed out before, to it, and says this, whatever log is meant
abbrev pub HearsHanded : List code.Message → ℕ → ClientAction Command Answer → ℕ → Type 0
HearsHanded sent c (Hears m) place = (a : code.Message) × (slice_get sent place ≡ Some a) × (party_of a.to ≡ Client c)
    × ((l : List (Request Command)) → message_with l a ≡ m)
HearsHanded sent c _ place = Unit {0}

-- A process that was killed within a step that would have come to this leaves a store which holds no view but those
-- that it held before the step and those that it would have held behind it.
pub record KilledWithin {S : Type 0} (load_gives : S → Option Stored → S → Type 0)
    (save_gives : S → ℕ → Bool → S → Type 0) (faults : S → ℕ) (holds : S → (ℕ → Bool) → Type 0) (q : Replica) (s : S)
    (e : Event) (left : S) : Type 0 where
  pub becomes : Replica
  pub saved : S
  pub result : StepResult
  pub step : StepsTo load_gives save_gives faults q s e becomes saved result
  pub holds_no_other : (k : ℕ → Bool) → holds s k → holds saved k → holds left k

-- the stores of one kind, and the group
module _ {S : Type 0} (load_gives : S → Option Stored → S → Type 0) (save_gives : S → ℕ → Bool → S → Type 0)
    (faults : S → ℕ) (begin_gives : S → Option Stored → S → Type 0) (holds : S → (ℕ → Bool) → Type 0)
    (g : Group) where
  -- the first start of a replica finds a store that holds no view but 0; each later one, which is no first start, a
  -- store that holds what the one before was left with
  abbrev pub IsNextStart : Option (Seat S) → S → Option ℕ → Type 0
  IsNextStart None found starts = holds found (only 0)
  IsNextStart (Some seat) found starts =
      ((k : ℕ → Bool) → holds seat.store k → holds found k) × (starts ≡ Some 1 → ⊥)

  -- A start that leaves this is also one of a store that holds what was left. The store that was opened for it need not
  -- know by then what its file has.
  pub record StartsAsLeft (i : ℕ) (seat : Option (Seat S)) (left : S) (q : Replica) (nonce starts : Option ℕ) : Type 0
    where
      pub knowing : S
      pub start : HasStarted begin_gives (member g i) knowing left q nonce starts
      pub next : IsNextStart seat knowing starts

  -- each move is by the contract of the code, from where its replica or client is by then
  abbrev pub AreCodeMoves : (ℕ → Option (Seat S)) → (ℕ → ℕ → Bool) → (ℕ → ClientState Command) → List code.Message
      → List (CodeMove S) → Type 0
  AreCodeMoves seats given clients sent [] = Unit {0}
  AreCodeMoves seats given clients sent (Starts i q found left nonce starts ∷ ms) =
      (i < group_size g.f) × HasStarted begin_gives (member g i) found left q nonce starts
      × StartsAsLeft i (seats i) left q nonce starts × IsUnused (given i) nonce
      × AreCodeMoves (put seats i (Some (runs q left nonce))) (put given i (given_with (given i) nonce)) clients sent
      ms
  AreCodeMoves seats given clients sent (Steps i e place r left result ∷ ms) =
      (q : Replica) × (s : S) × (waits : Option ℕ) × (i < group_size g.f) × (seats i ≡ Some (runs q s waits))
      × StepsTo load_gives save_gives faults q s e r left result × TakesHanded sent i waits e place
      × AreCodeMoves (put seats i (Some (runs r left None))) given clients (sent ++ sends_in result) ms
  AreCodeMoves seats given clients sent (Dies i e place left ∷ ms) =
      (q : Replica) × (s : S) × (waits : Option ℕ) × (i < group_size g.f) × (seats i ≡ Some (runs q s waits))
      × KilledWithin load_gives save_gives faults holds q s e left × TakesHanded sent i waits e place
      × AreCodeMoves (put seats i (Some (killed left))) given clients sent ms
  AreCodeMoves seats given clients sent (Serves c d out place ∷ ms) =
      MayClient g.f c g.answer (clients c) d.action × (d.sends ≡ client_sends g.f c g.answer (clients c) d.action)
      × AllStand IsSavedAs g out d.sends × HearsHanded sent c d.action place
      × AreCodeMoves seats given (put clients c (client_after g.f c g.answer (clients c) d.action)) (sent ++ out) ms

  -- from before the first start of each replica
  abbrev pub AreFromTheStart : List (CodeMove S) → Type 0
  AreFromTheStart ms = AreCodeMoves (λ i. None) (λ i x. false) (λ c. first_client) [] ms

module _ {S : Type 0} where
  -- what runs of each replica then
  abbrev pub seats_after : (ℕ → Option (Seat S)) → List (CodeMove S) → ℕ → Option (Seat S)
  seats_after seats [] = seats
  seats_after seats (Starts i q found left nonce starts ∷ ms) =
      seats_after (put seats i (Some (runs q left nonce))) ms
  seats_after seats (Steps i e place r left result ∷ ms) = seats_after (put seats i (Some (runs r left None))) ms
  seats_after seats (Dies i e place left ∷ ms) = seats_after (put seats i (Some (killed left))) ms
  seats_after seats (Serves c d out place ∷ ms) = seats_after seats ms

  abbrev pub handed_by : CodeMove S → List code.Message
  handed_by (Starts i q found left number starts) = []
  handed_by (Steps i e place r left result) = sends_in result
  handed_by (Dies i e place left) = []
  handed_by (Serves c d out place) = out

  -- all that was handed out, in order
  abbrev pub all_handed : List (CodeMove S) → List code.Message
  all_handed [] = []
  all_handed (m ∷ ms) = handed_by m ++ all_handed ms

  -- what each client did, in order
  abbrev pub clients_in : List (CodeMove S) → List (ℕ × ClientStep Command Answer)
  clients_in [] = []
  clients_in (Starts i q found left number starts ∷ ms) = clients_in ms
  clients_in (Steps i e place r left result ∷ ms) = clients_in ms
  clients_in (Dies i e place left ∷ ms) = clients_in ms
  clients_in (Serves c d out place ∷ ms) = (c, d) ∷ clients_in ms

abbrev pub observed_clients : List (ObservedMove Command Answer) → List (ℕ × ClientStep Command Answer)
observed_clients [] = []
observed_clients (ByReplica i g place ∷ ms) = observed_clients ms
observed_clients (ByClient c d place ∷ ms) = (c, d) ∷ observed_clients ms

-- The moves of the code show as observed moves that are one run of the group, with one history: each replica that runs
-- stands for the record that is known of it, the messages that were handed out stand for those that were said, and the
-- clients' steps are theirs.
pub record AreOneRun {S : Type 0} (g : Group) (early late : List (CodeMove S)) : Type 0 where
  pub first : List (ObservedMove Command Answer)
  pub second : List (ObservedMove Command Answer)
  pub run : IsOneRun g.f g.answer first second
  pub replicas : (i : ℕ) (seat : Seat S) (q : Replica) → seats_after (λ i. None) early i ≡ Some seat
      → seat.replica ≡ Some q → StandsFor q (member g i) (known_at g.f g.answer first i)
  pub messages : AllStand IsSavedAs g (all_handed early) (all_said first)
  pub clients : observed_clients first ≡ clients_in early
