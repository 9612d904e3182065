-- The calls of a client as steps over all its starts.
use Rattle.std.proofs.Common.{◌≡◌, ℕ, ◌+◌, ◌<◌, ◌^◌, List, [], ◌∷◌, map, refl, sym, ap, subst, arith}
use Rattle.il_model.specs.declared.command.Command.{Command}
use Rattle.il_model.specs.declared.command.Answer.{Answer}
use Rattle.vr_model.specs.declared.message.Message.{Message}
use Rattle.vr_model.specs.Groups.{client_count}
use Rattle.vr_model.specs.Logs.{Request}
use Rattle.vr_model.specs.StandsFor.{message_with}
use Rattle.vr_model.specs.Steps.{ClientAction, Submits, Retries, StartsAgain, Hears, MayClient, client_after}
use Rattle.vr_model.specs.World.{ClientState, restarts_client}
use Rattle.vr_client.specs.Client.{Client, new_client, SendsAt, BecomesAt, SubmitsCommand}
use Rattle.laws_threads.specs.ClientStarts.{HasBegun, ComesTo}

pub begins : (f c starts : ℕ) (answer : List Command → Answer) (knows : ClientState Command) → c < client_count → knows.starts < starts → starts < 2 ^ 32 → ComesTo f c answer knows StartsAgain [] (new_client f c starts).state
begins f c starts answer knows low more few = (low, (more, few, refl, refl), refl)

-- the state that a call leaves
becomes : (answer : List Command → Answer) (a b : Client) (action : ClientAction Command Answer) → BecomesAt a action b → b.state ≡ client_after a.f a.number answer a.state action
becomes answer a b action is = ap (λ (d : Client). d.state) (is answer)

has_begun : (f c : ℕ) (answer : List Command → Answer) (k : ClientState Command) → k.starts + 1 < 2 ^ 32 → HasBegun f c answer k (restarts_client f answer k)
has_begun f c answer k few = (omega arith, few, refl, refl)

pub begins_again : (answer : List Command → Answer) (a b : Client) → MayClient a.f a.number answer a.state StartsAgain → BecomesAt a StartsAgain b → ComesTo a.f a.number answer a.state StartsAgain [] b.state
begins_again answer a b may is =
    (may.0, subst (λ (k : ClientState Command). HasBegun a.f a.number answer a.state k) (sym (becomes answer a b StartsAgain is)) (has_begun a.f a.number answer a.state may.1), refl)

pub submits : (answer : List Command → Answer) (a b : Client) (command : Command) (message : Message) → SubmitsCommand a command message b → ComesTo a.f a.number answer a.state (Submits command) (message_with [] message ∷ []) b.state
submits answer a b command message s = (s.may answer, s.sent answer, becomes answer a b (Submits command) s.waits)

pub asks_again : (answer : List Command → Answer) (a : Client) (sends : List Message) → MayClient a.f a.number answer a.state Retries → SendsAt a Retries sends → ComesTo a.f a.number answer a.state Retries (map (message_with []) sends) a.state
asks_again answer a sends may sent = (may, sent answer, refl)

pub hears : (answer : List Command → Answer) (a b : Client) (message : Message) (log : List (Request Command)) → BecomesAt a (Hears (message_with log message)) b → ComesTo a.f a.number answer a.state (Hears (message_with log message)) [] b.state
hears answer a b message log is = (tt, refl, becomes answer a b (Hears (message_with log message)) is)
