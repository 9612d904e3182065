-- Each replica's own list of starts and steps, as its thread or its processes have it, and the lists in one order.
use Rattle.std.specs.Prelude.{◌≡◌, ℕ, ◌<◌, ◌≤◌, ◌==◌, if◌then◌else◌, Bool, false, List, [], ◌∷◌, ◌++◌, filter_map}
use Rattle.std.specs.Prelude.{Option, Some, None, slice_get}
use Rattle.il_model.specs.declared.command.Command.{Command}
use Rattle.il_model.specs.declared.command.Answer.{Answer}
use Rattle.vr_model.specs.declared.event.Event.{Event}
use Rattle.vr_model.specs.declared.event.Event.TheVariants as event
use Rattle.vr_model.specs.declared.event.Stored.{Stored}
use Rattle.vr_model.specs.declared.message.Message as code
use Rattle.vr_model.specs.declared.message.Party.TheVariants as party
use Rattle.vr_model.specs.Groups.{group_size}
use Rattle.vr_model.specs.Logs.{IsPrefix}
use Rattle.vr_model.specs.Membership.{Group, member}
use Rattle.vr_model.specs.Steps.{ClientStep, AreClientSteps, first_client}
use Rattle.vr_model.specs.StandsFor.{AllStand}
use Rattle.vr_core.specs.StandsFor.{IsSavedAs}
use Rattle.vr_replica.specs.declared.state.Replica.{Replica}
use Rattle.vr_replica.specs.Stepped.{StepResult}
use Rattle.vr_ports.specs.Parties.{Grows}
use Rattle.vr_serving.specs.Serving.{StepsTo, Scene, Turn, event_of, sends_in}
use Rattle.vr_threads.specs.Working.{HasStarted}
use Rattle.laws_threads.specs.CodeMoves.{CodeMove, Starts, Steps, Dies, Serves, Seat, runs, killed}
use Rattle.laws_threads.specs.CodeMoves.{given_with, IsUnused, HearsHanded, KilledWithin, StartsAsLeft}

-- a move of one replica; it died where its process was killed within the step on an event
pub data OwnMove (S : Type 0) : Type 0 where
  Started : (comes : Replica) (found left : S) (nonce starts : Option ℕ) → OwnMove S
  Stepped : (event : Event) (becomes : Replica) (left : S) (result : StepResult) → OwnMove S
  Died : (event : Event) (left : S) → OwnMove S

-- a replica that has yet to come up does that first, with the nonce that its start gave
abbrev pub MayTake : Option ℕ → Event → Type 0
MayTake waits (event.Message a) = waits ≡ None
MayTake waits event.Timeout = waits ≡ None
MayTake waits event.Resend = waits ≡ None
MayTake waits (event.Restart n) = waits ≡ Some n

module _ {S : Type 0} where
  -- replica i's own list
  abbrev pub own_moves : ℕ → List (CodeMove S) → List (OwnMove S)
  own_moves i [] = []
  own_moves i (Starts j q found left number starts ∷ ms) =
      if i == j then Started q found left number starts ∷ own_moves i ms else own_moves i ms
  own_moves i (Steps j e place r left result ∷ ms) =
      if i == j then Stepped e r left result ∷ own_moves i ms else own_moves i ms
  own_moves i (Dies j e place left ∷ ms) = if i == j then Died e left ∷ own_moves i ms else own_moves i ms
  own_moves i (Serves c d out place ∷ ms) = own_moves i ms

  -- client c's own list
  abbrev pub own_steps : ℕ → List (CodeMove S) → List (ClientStep Command Answer)
  own_steps c [] = []
  own_steps c (Starts j q found left number starts ∷ ms) = own_steps c ms
  own_steps c (Steps j e place r left result ∷ ms) = own_steps c ms
  own_steps c (Dies j e place left ∷ ms) = own_steps c ms
  own_steps c (Serves e d out place ∷ ms) = if c == e then d ∷ own_steps c ms else own_steps c ms

  abbrev pub events_in : List (OwnMove S) → List Event
  events_in [] = []
  events_in (Started q found left number starts ∷ ms) = events_in ms
  events_in (Stepped e r left result ∷ ms) = e ∷ events_in ms
  events_in (Died e left ∷ ms) = e ∷ events_in ms

  -- what a list handed out, in order
  abbrev pub own_handed : List (OwnMove S) → List code.Message
  own_handed [] = []
  own_handed (Started q found left number starts ∷ ms) = own_handed ms
  own_handed (Stepped e r left result ∷ ms) = sends_in result ++ own_handed ms
  own_handed (Died e left ∷ ms) = own_handed ms

  abbrev pub seat_after : Option (Seat S) → List (OwnMove S) → Option (Seat S)
  seat_after seat [] = seat
  seat_after seat (Started q found left number starts ∷ ms) = seat_after (Some (runs q left number)) ms
  seat_after seat (Stepped e r left result ∷ ms) = seat_after (Some (runs r left None)) ms
  seat_after seat (Died e left ∷ ms) = seat_after (Some (killed left)) ms

module _ (g : Group) where
  abbrev pub EventHanded : List code.Message → ℕ → Event → ℕ → Type 0
  EventHanded sent i (event.Message a) place = (slice_get sent place ≡ Some a) × (a.to ≡ party.Replica i)
  EventHanded sent i _ place = Unit {0}

  -- In this order each message that is taken was handed out before, to its taker; and what a client hands out are the
  -- requests of its step.
  abbrev pub AllTakeHanded : {S : Type 0} → List code.Message → List (CodeMove S) → Type 0
  AllTakeHanded sent [] = Unit {0}
  AllTakeHanded sent (Starts i q found left number starts ∷ ms) = AllTakeHanded sent ms
  AllTakeHanded sent (Steps i e place r left result ∷ ms) =
      EventHanded sent i e place × AllTakeHanded (sent ++ sends_in result) ms
  AllTakeHanded sent (Dies i e place left ∷ ms) = EventHanded sent i e place × AllTakeHanded sent ms
  AllTakeHanded sent (Serves c d out place ∷ ms) =
      AllStand IsSavedAs g out d.sends × HearsHanded sent c d.action place × AllTakeHanded (sent ++ out) ms

module _ {S : Type 0} (load_gives : S → Option Stored → S → Type 0) (save_gives : S → ℕ → Bool → S → Type 0)
    (faults : S → ℕ) (begin_gives : S → Option Stored → S → Type 0) (holds : S → (ℕ → Bool) → Type 0)
    (g : Group) where
  -- replica i's own list is right by itself
  abbrev pub AreOwnMoves : ℕ → Option (Seat S) → (ℕ → Bool) → List (OwnMove S) → Type 0
  AreOwnMoves i seat given [] = Unit {0}
  AreOwnMoves i seat given (Started q found left number starts ∷ ms) =
      HasStarted begin_gives (member g i) found left q number starts
      × StartsAsLeft load_gives save_gives faults begin_gives holds g i seat left q number starts
      × IsUnused given number
      × AreOwnMoves i (Some (runs q left number)) (given_with given number) ms
  AreOwnMoves i seat given (Stepped e r left result ∷ ms) =
      (q : Replica) × (s : S) × (waits : Option ℕ) × (seat ≡ Some (runs q s waits))
      × StepsTo load_gives save_gives faults q s e r left result × MayTake waits e
      × AreOwnMoves i (Some (runs r left None)) given ms
  AreOwnMoves i seat given (Died e left ∷ ms) =
      (q : Replica) × (s : S) × (waits : Option ℕ) × (seat ≡ Some (runs q s waits))
      × KilledWithin load_gives save_gives faults holds q s e left × MayTake waits e
      × AreOwnMoves i (Some (killed left)) given ms

  -- each replica's list is right by itself, from before its first start, and so is each client's; and the moves are
  -- these in one order
  pub record EachInOneOrder (ms : List (CodeMove S)) : Type 0 where
    pub replicas : (i : ℕ) → i < group_size g.f → AreOwnMoves i None (λ x. false) (own_moves i ms)
    pub no_others : (i : ℕ) → group_size g.f ≤ i → own_moves i ms ≡ []
    pub clients : (c : ℕ) → AreClientSteps g.f c g.answer first_client (own_steps c ms)
    pub taken : AllTakeHanded g [] ms

-- the nonces that were given by then
abbrev pub given_after : {S : Type 0} → (ℕ → Bool) → List (OwnMove S) → ℕ → Bool
given_after given [] = given
given_after given (Started q found left number starts ∷ ms) = given_after (given_with given number) ms
given_after given (Stepped e r left result ∷ ms) = given_after given ms
given_after given (Died e left ∷ ms) = given_after given ms

-- a replica that is served, and has nothing to come up with
abbrev pub seat_in : {S : Type 0} → Scene S → Seat S
seat_in a = runs a.replica a.store None

-- Serving is moves of the replica's own list: a step for each event of the turns, which handed out what serving did.
pub record IsServed {S : Type 0} (load_gives : S → Option Stored → S → Type 0) (save_gives : S → ℕ → Bool → S → Type 0)
    (faults : S → ℕ) (begin_gives : S → Option Stored → S → Type 0) (holds : S → (ℕ → Bool) → Type 0) (g : Group)
    (i : ℕ) (given : ℕ → Bool) (turns : List Turn) (a b : Scene S) (sends : List code.Message) : Type 0 where
  pub moves : List (OwnMove S)
  pub right : AreOwnMoves load_gives save_gives faults begin_gives holds g i (Some (seat_in a)) given moves
  pub end : seat_after (Some (seat_in a)) moves ≡ Some (seat_in b)
  pub events : events_in moves ≡ filter_map event_of turns
  pub handed : own_handed moves ≡ sends

-- Serving that was cut short within a step on this event, behind these turns: moves of the replica's own list for the
-- turns, and its death, whatever store that leaves. Nothing was handed out but by the moves.
pub record IsServedUntil {S : Type 0} (load_gives : S → Option Stored → S → Type 0)
    (save_gives : S → ℕ → Bool → S → Type 0) (faults : S → ℕ) (begin_gives : S → Option Stored → S → Type 0)
    (holds : S → (ℕ → Bool) → Type 0) (g : Group) (i : ℕ) (given : ℕ → Bool) (turns : List Turn) (e : Event)
    (a : Scene S) (sends : List code.Message) : Type 0 where
  pub moves : List (OwnMove S)
  pub replica : Replica
  pub store : S
  pub would_leave : S
  pub right : AreOwnMoves load_gives save_gives faults begin_gives holds g i (Some (seat_in a)) given moves
  pub end : seat_after (Some (seat_in a)) moves ≡ Some (runs replica store None)
  pub events : events_in moves ≡ filter_map event_of turns
  pub handed : IsPrefix (own_handed moves) sends
  pub died : (left : S) → ((k : ℕ → Bool) → holds store k → holds would_leave k → holds left k)
      → AreOwnMoves load_gives save_gives faults begin_gives holds g i (Some (seat_in a)) given
      (moves ++ Died e left ∷ [])

-- One start of a thread is moves of its replica's own list, which begin with the start, and hand out what its link was
-- handed to be sent.
pub record IsWorkedOff {S : Type 0} (load_gives : S → Option Stored → S → Type 0)
    (save_gives : S → ℕ → Bool → S → Type 0) (faults : S → ℕ) (begin_gives : S → Option Stored → S → Type 0)
    (holds : S → (ℕ → Bool) → Type 0) (g : Group) (i : ℕ) (seat : Option (Seat S)) (given : ℕ → Bool)
    (sent sent_after : Option (List code.Message)) (end : Replica) (left : S) : Type 0 where
  pub moves : List (OwnMove S)
  pub right : AreOwnMoves load_gives save_gives faults begin_gives holds g i seat given moves
  pub ends : seat_after seat moves ≡ Some (runs end left None)
  pub handed : Grows sent sent_after (own_handed moves)
