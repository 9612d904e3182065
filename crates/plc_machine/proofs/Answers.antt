-- A request that waited and waits no more was answered.
use Rattle.std.proofs.Common.{◌≡◌, ◌&&◌, ◌==◌, ◌∙◌, ap, refl, is_some, not, Bool, true, false, ℕ, List, Option, Some, None}
use Rattle.std.specs.Prelude.{if◌then◌else◌}
use Rattle.il_model.specs.declared.command.Command.{Command}
use Rattle.il_model.specs.declared.command.Answer.{Answer}
use Rattle.il_model.specs.declared.command.Answer.TheVariants.{Done}
use Rattle.vr_model.specs.Logs.{Request}
use Rattle.vr_model.specs.Messages.{Body, Message, Reply}
use Rattle.vr_model.specs.Steps.{Hears, heard}
use Rattle.vr_model.specs.World.{ClientState, is_waiting}
use Rattle.vr_client.specs.Client.{BecomesAt, Client, answer_by}
use Rattle.vr_client.specs.declared.client.Answered.{Answered}

by_number : (m : Request Command) (is : Bool) (x : Answered) → (true && not (is_some (if is then None else Some m))) ≡ is_some (if is then Some x else None)
by_number m true x = refl
by_number m false x = refl

by_reply : (waits : Option (Request Command)) (number : ℕ) (x : Answered) → (is_some waits && not (is_some (if is_waiting waits number then None else waits))) ≡ is_some (if is_waiting waits number then Some x else None)
by_reply None number x = refl
by_reply (Some m) number x = by_number m (m.number == number) x

by_none : (waits : Option (Request Command)) → (is_some waits && not (is_some waits)) ≡ false
by_none None = refl
by_none (Some m) = refl

by_body : (f c : ℕ) (answer : List Command → Answer) (k : ClientState Command) (body : Body Command Answer) → (is_some k.waits && not (is_some (heard f c answer k body).waits)) ≡ is_some (answer_by k body)
by_body f c answer k (Reply view number given) = by_reply k.waits number (record { number = number; answer = given })
by_body f c answer k body = by_none k.waits

pub was_answered : (a b : Client) (m : Message Command Answer) → BecomesAt a (Hears m) b → (is_some a.state.waits && not (is_some b.state.waits)) ≡ is_some (answer_by a.state m.body)
was_answered a b m becomes =
    ap (λ (x : Client). is_some a.state.waits && not (is_some x.state.waits)) (becomes (λ commands. Done))
    ∙ by_body a.f a.number (λ commands. Done) a.state m.body
