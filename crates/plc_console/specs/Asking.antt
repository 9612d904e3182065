-- A command that a client submits over its link, until it's answered.
use Rattle.std.specs.Prelude.{◌≡◌, ◌⊎◌, ℕ, List, [], ◌∷◌, Option, Some, None, option_map}
use Rattle.std.specs.List.{flat_map, AllByRecursion}
use Rattle.il_model.specs.declared.command.Command.{Command}
use Rattle.il_model.specs.declared.command.Answer.{Answer}
use Rattle.vr_model.specs.declared.message.Body.{Body}
use Rattle.vr_model.specs.declared.message.Body.TheVariants as says
use Rattle.vr_model.specs.declared.message.Message.{Message}
use Rattle.vr_model.specs.StandsFor.{body_with, message_with}
use Rattle.vr_model.specs.World.{next_number}
use Rattle.vr_model.specs.Steps.{Retries, StartsAgain, Hears as Heard}
use Rattle.vr_ports.specs.declared.link.Input.{Input}
use Rattle.vr_ports.specs.declared.link.Input.TheVariants as input
use Rattle.vr_ports.specs.Parties.{Grows}
use Rattle.vr_client.specs.Client.{Client, SendsAt, BecomesAt, SubmitsCommand, answer_by}

-- what shows of a link: what its receives gave, and what it was handed to send
pub record Way : Type 0 where
  pub inputs : Option (List Input)
  pub sent : Option (List Message)

abbrev pub way : Option (List Input) → Option (List Message) → Way
way inputs sent = record { inputs = inputs; sent = sent }

-- the number and the answer of a REPLY
abbrev pub reply_of : Body → Option (ℕ × Answer)
reply_of (says.Reply view number answer) = Some (number, answer)
reply_of _ = None

abbrev pub reply_in : Input → Option (ℕ × Answer)
reply_in (input.Message message) = reply_of message.body
reply_in input.Nothing = None
reply_in input.Closed = None

-- it's no REPLY with this number
abbrev pub IsNoReplyTo : ℕ → Input → Type 0
IsNoReplyTo number i = (answer : Answer) → reply_in i ≡ Some (number, answer) → ⊥

-- these messages, one list behind another
abbrev pub joined : List (List Message) → List Message
joined lists = flat_map (λ list. list) lists

-- The client submitted a command, and waits for its answer: by one request, that very request sent again some times, to
-- all. What came meanwhile is no REPLY with its number.
pub record Waits (c : Client) (command : Command) (before after : Way) (c' : Client) : Type 0 where
  pub submitted : Client
  pub request : Message
  pub again : List (List Message)
  pub heard : List Input
  pub submits : SubmitsCommand c command request submitted
  pub retries : AllByRecursion (SendsAt submitted Retries) again
  pub sent : Grows before.sent after.sent (request ∷ joined again)
  pub received : Grows before.inputs after.inputs heard
  pub unanswered : AllByRecursion (IsNoReplyTo (next_number c.state)) heard
  pub same : c' ≡ record submitted { state = record submitted.state { view = c'.state.view } }

-- Then a REPLY with its number came, the first: this is its answer, and nothing waits any more.
pub record IsAnswered (c : Client) (command : Command) (before after : Way) (answer : Answer)
    (c' : Client) : Type 0 where
  pub waiting : Client
  pub between : Way
  pub waits : Waits c command before between waiting
  pub reply : Message
  pub received : Grows between.inputs after.inputs (input.Message reply ∷ [])
  pub quiet : after.sent ≡ between.sent
  pub answers : reply_of reply.body ≡ Some (next_number c.state, answer)
  pub free : c' ≡ record waiting { state = record waiting.state { view = c'.state.view; waits = None } }

-- one receive found the link closed
pub record FindsClosed (before after : Way) : Type 0 where
  pub received : Grows before.inputs after.inputs (input.Closed ∷ [])
  pub quiet : after.sent ≡ before.sent

-- a client that waits for nothing any more, since it started again; or it couldn't, and goes on waiting
abbrev pub GivesUp : Client → Client → Type 0
GivesUp c c' = BecomesAt c StartsAgain c' ⊎ (c' ≡ c)

-- Why there is no answer: nothing was submitted, nor anything done; or the command was, and waited until the link was
-- closed, or it was given up.
abbrev pub IsUnanswered : Client → Command → Way → Way → Client → Type 0
IsUnanswered c command before after c' = ((c' ≡ c) × (after ≡ before))
    ⊎ (((between : Way) × Waits c command before between c' × FindsClosed between after)
    ⊎ ((waiting : Client) × Waits c command before after waiting × GivesUp waiting c'))

-- what one receive was to a client: the answer that it brings, if it does
abbrev pub answer_in : Client → Input → Option Answer
answer_in c (input.Message message) = option_map (λ a. a.answer) (answer_by c.state (body_with [] message.body))
answer_in c input.Nothing = None
answer_in c input.Closed = None

-- the client after what one receive gave
abbrev pub IsAfter : Client → Input → Client → Type 0
IsAfter c (input.Message message) c' = BecomesAt c (Heard (message_with [] message)) c'
IsAfter c input.Nothing c' = c' ≡ c
IsAfter c input.Closed c' = c' ≡ c

-- One receive gave something, and this is the answer that it brings, if it does.
pub record Hears (c : Client) (before after : Way) (answer : Option Answer) (c' : Client) : Type 0 where
  pub came : Input
  pub received : Grows before.inputs after.inputs (came ∷ [])
  pub quiet : after.sent ≡ before.sent
  pub brings : answer ≡ answer_in c came
  pub becomes : IsAfter c came c'
