-- A client of the replication rules: the requests that it submits, the answers that it takes, and when it sends again.
use Rattle.std.specs.Prelude.{◌≡◌, ℕ, ◌+◌, ◌^◌, Bool, ◌||◌, nat_le, if◌then◌else◌, List, [], ◌∷◌, map, Option, Some}
use Rattle.std.specs.Prelude.{None, is_some, ◌-◌, false}
use Rattle.il_model.specs.declared.command.Command.{Command}
use Rattle.il_model.specs.declared.command.Answer.{Answer}
use Rattle.vr_model.specs.declared.message.Message.{Message}
use Rattle.vr_model.specs.Messages.{Body, Reply}
use Rattle.vr_model.specs.StandsFor.{message_with}
use Rattle.vr_model.specs.World.{ClientState, is_waiting}
use Rattle.vr_model.specs.Steps.{ClientAction, Submits, MayClient, client_after, client_sends}
use Rattle.vr_client.specs.declared.client.Answered.{Answered}

-- a group of 2f+1 replicas, the number of one of its clients, and what that client knows
pub record Client : Type 0 where
  pub f : ℕ
  pub number : ℕ
  pub state : ClientState Command

-- it started so often before, has given no number since, and knows of no view
abbrev pub new_client : ℕ → ℕ → ℕ → Client
new_client f c starts = record {
  f = f;
  number = c;
  state = record { starts = starts; sequence = 0; view = 0; waits = None };
}

-- These messages are what the client sends at this step; none carries a log. What commands are answered makes no
-- difference to a client.
abbrev pub SendsAt : Client → ClientAction Command Answer → List Message → Type 0
SendsAt d action sends = (answer : List Command → Answer)
    → map (message_with []) sends ≡ client_sends d.f d.number answer d.state action

-- the client after this step
abbrev pub BecomesAt : Client → ClientAction Command Answer → Client → Type 0
BecomesAt d action d' = (answer : List Command → Answer)
    → d' ≡ record d { state = client_after d.f d.number answer d.state action }

-- The client submitted this command, as it may, by one message.
pub record SubmitsCommand (d : Client) (command : Command) (message : Message) (d' : Client) : Type 0 where
  pub may : (answer : List Command → Answer) → MayClient d.f d.number answer d.state (Submits command)
  pub sent : SendsAt d (Submits command) (message ∷ [])
  pub waits : BecomesAt d (Submits command) d'

-- a request waits, or the numbers are used up
abbrev pub cannot_submit : ClientState Command → Bool
cannot_submit k = is_some k.waits || nat_le (2 ^ 32) (k.sequence + 1)

-- what a message answers: a REPLY with the waiting number is the answer, and the first one, since nothing waits after
-- it
abbrev pub answer_by : ClientState Command → Body Command Answer → Option Answered
answer_by k (Reply view number answer) = if is_waiting k.waits number
    then Some (record { number = number; answer = answer }) else None
answer_by k _ = None

-- ---- when a request without a reply is sent again, in nanoseconds of one clock

-- after how long without a reply a request is sent again, and when it was sent last, if that is known
pub record Timer : Type 0 where
  pub period : ℕ
  pub sent : Option ℕ

abbrev pub went_by : ℕ → Option ℕ → ℕ → Bool
went_by period (Some sent) now = nat_le period (now - sent)
went_by period None now = false

-- a period went by since the request was sent last
abbrev pub is_due : Timer → ℕ → Bool
is_due timer now = went_by timer.period timer.sent now

abbrev pub sent_by : ℕ → Option ℕ → ℕ → Option ℕ
sent_by period (Some sent) now = Some (if nat_le period (now - sent) then now else sent)
sent_by period None now = Some now

-- the timer after it was asked: where the request is due it is sent now, and where it wasn't known when, it counts as
-- sent now
abbrev pub asked_at : Timer → ℕ → Timer
asked_at timer now = record timer { sent = sent_by timer.period timer.sent now }
