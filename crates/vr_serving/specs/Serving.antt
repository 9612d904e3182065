-- What a served replica did, as a list of turns.
use Rattle.std.specs.Prelude.{ℕ, ◌≡◌, ◌≤◌, ◌↔◌, ◌⊎◌, Bool, List, [], ◌∷◌, ◌++◌, length, map, filter_map, All, Option}
use Rattle.std.specs.Prelude.{Some, None, Ok, Err, MatchBool, IsErrOf}
use Rattle.il_model.specs.declared.command.Command.{Command}
use Rattle.io_model.specs.Streams.{Failed}
use Rattle.vr_model.specs.declared.event.Event.{Event}
use Rattle.vr_model.specs.declared.event.Event.TheVariants as event
use Rattle.vr_model.specs.declared.event.Stored.{Stored}
use Rattle.vr_model.specs.declared.message.Message.{Message}
use Rattle.vr_model.specs.Membership.{Membership}
use Rattle.vr_model.specs.Replicas.{ReplicaState}
use Rattle.vr_core.specs.StandsFor.{IsSavedAs}
use Rattle.vr_replica.specs.declared.state.Replica.{Replica}
use Rattle.vr_replica.specs.declared.fault.StepFault.TheVariants as fault
use Rattle.vr_replica.specs.Standing.{StandsFor, IsDeafTo}
use Rattle.vr_replica.specs.Stepped.{Stepped, StepResult}
use Rattle.vr_ports.specs.declared.timer.Tick.{Tick}
use Rattle.vr_ports.specs.declared.timer.Tick.TheVariants as tick
use Rattle.vr_ports.specs.declared.link.Input.{Input}
use Rattle.vr_ports.specs.declared.link.Input.TheVariants as input
use Rattle.vr_ports.specs.Parties.{Grows}

-- one turn: the timer's tick was the event; or the timer was quiet, and one receive gave this
pub data Turn : Type 0 where
  TimedOut : Turn
  Resent : Turn
  Received : Input → Turn

abbrev pub tick_of : Turn → Tick
tick_of TimedOut = tick.Timeout
tick_of Resent = tick.Resend
tick_of (Received i) = tick.None

abbrev pub input_of : Turn → Option Input
input_of TimedOut = None
input_of Resent = None
input_of (Received i) = Some i

-- Nothing and Closed are no event
abbrev pub event_from : Input → Option Event
event_from (input.Message a) = Some (event.Message a)
event_from input.Nothing = None
event_from input.Closed = None

abbrev pub event_of : Turn → Option Event
event_of TimedOut = Some event.Timeout
event_of Resent = Some event.Resend
event_of (Received i) = event_from i

-- the turn did not find the link closed
abbrev pub GoesOn : Turn → Type 0
GoesOn TimedOut = Unit {0}
GoesOn Resent = Unit {0}
GoesOn (Received (input.Message a)) = Unit {0}
GoesOn (Received input.Nothing) = Unit {0}
GoesOn (Received input.Closed) = ⊥

-- just so many turns; or no more, of which the last and no other found the link closed
abbrev pub AreAll : ℕ → List Turn → Type 0
AreAll n turns =
    (All GoesOn turns × (length turns ≡ n))
    ⊎ ((before : List Turn) × All GoesOn before × (turns ≡ before ++ Received input.Closed ∷ []) × (length turns ≤ n))

-- what a step handed out to be sent
abbrev pub sends_in : StepResult → List Message
sends_in (Ok sends) = sends.items
sends_in (Err e) = []

-- what shows of a served replica and its ends at one moment
pub record Scene (S : Type 0) : Type 0 where
  pub ticks : Option (List Tick)
  pub inputs : Option (List Input)
  pub sent : Option (List Message)
  pub replica : Replica
  pub store : S

abbrev pub scene : {S : Type 0} → Option (List Tick) → Option (List Input) → Option (List Message) → Replica → S
    → Scene S
scene t i s r u = record { ticks = t; inputs = i; sent = s; replica = r; store = u }

-- the stores of one kind: how a load and a save leave them, and how often they have failed
module _ {S : Type 0} (load_gives : S → Option Stored → S → Type 0) (save_gives : S → ℕ → Bool → S → Type 0)
    (faults : S → ℕ) where
  -- One call of `Replica::step`: the replica went from q to r, and its store from s to t. Whatever record q stood for,
  -- its rule was done, or a fault of it.
  pub record StepsTo (q : Replica) (s : S) (e : Event) (r : Replica) (t : S) (result : StepResult) : Type 0 where
    pub row : (m : Membership) (was : ReplicaState Command) → StandsFor q m was
        → Stepped load_gives save_gives IsSavedAs (StandsFor r m) m was s t e result
    pub down : IsErrOf result fault.Down ↔ IsDeafTo q e
    pub device : IsErrOf result fault.Store → Failed (faults s) (faults t)
    pub counts : faults s ≤ faults t

  -- the replica and its store went from these to those by a step for each of the events, and these are the sends of the
  -- steps, in order
  abbrev pub Ran : Replica → S → List Event → Replica → S → List Message → Type 0
  Ran q s [] r t sends = (r ≡ q) × (t ≡ s) × (sends ≡ [])
  Ran q s (e ∷ es) r t sends =
      (p : Replica) × (u : S) × (result : StepResult) × (rest : List Message) × StepsTo q s e p u result
      × Ran p u es r t rest × (sends ≡ sends_in result ++ rest)

  -- What these turns did: the timer was polled once in each, and gave these ticks; the receives gave these inputs; and
  -- what was handed to be sent is, in order, what the steps on the turns' events handed out.
  pub record Did (turns : List Turn) (a b : Scene S) : Type 0 where
    pub sends : List Message
    pub polled : Grows a.ticks b.ticks (map tick_of turns)
    pub received : Grows a.inputs b.inputs (filter_map input_of turns)
    pub handed : Grows a.sent b.sent sends
    pub ran : Ran a.replica a.store (filter_map event_of turns) b.replica b.store sends

  -- one turn, which goes on or found the link closed
  pub record Turned (goes_on : Bool) (a b : Scene S) : Type 0 where
    pub turn : Turn
    pub kind : MatchBool goes_on (GoesOn turn) (turn ≡ Received input.Closed)
    pub did : Did (turn ∷ []) a b

  -- what serving for n turns did
  pub record Served (n : ℕ) (a b : Scene S) : Type 0 where
    pub turns : List Turn
    pub all : AreAll n turns
    pub did : Did turns a b
