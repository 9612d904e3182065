use Rattle.std.proofs.Common.{◌≡◌, ◌+◌, ◌*◌, ◌++◌, ◌∷◌, [], ◌∙◌, ℕ, List, map, Some, ap₂, subst, arith, add-one}
use Rattle.std.proofs.lemmas.List.{map-append}
use Rattle.il_model.specs.declared.command.Command.{Command}
use Rattle.il_model.specs.declared.command.Answer.{Answer}
use Rattle.vr_model.specs.declared.message.Message.{Message}
use Rattle.vr_model.specs.declared.message.Request as code
use Rattle.vr_model.specs.Logs.{Request}
use Rattle.vr_model.specs.Messages as meant
use Rattle.vr_model.specs.StandsFor.{message_with, request_of}
use Rattle.vr_model.specs.World.{request_message, retried}
use Rattle.vr_client.proofs.client.GroupClient.retry.Goals as goal

-- a request to one replica more
sent_more : (f k n : ℕ) (answer : List Command → Answer) (m : Request Command) (sends more : List Message) (x : Message)
    → map (message_with []) sends ≡ retried f answer k n (Some m) → more ≡ sends ++ x ∷ [] → message_with [] x ≡ request_message f answer k n m → map (message_with []) more ≡ retried f answer k (n + 1) (Some m)
sent_more f k n answer m sends more x stand is one =
    let all : map (message_with []) (sends ++ x ∷ []) ≡ retried f answer k n (Some m) ++ request_message f answer k n m ∷ [] =
    map-append (message_with []) sends (x ∷ []) ∙ ap₂ (λ (a : List (meant.Message Command Answer)) (b : meant.Message Command Answer). a ++ b ∷ []) stand one in
    rw (is, add-one) all

pub loop-replica-preserved : goal.loop-replica-preserved
loop-replica-preserved c =
    let before = rw (← c.self.view_is) at c.loop-replica.invariant in
    rw (← c.self.view_is)
    (λ f answer. sent_more f c.self.inside.client.number c.loop-replica.replica answer (request_of c.in-Some.request) c.loop-replica.sends.items c.push.new.self.items c.request_to.result
    (before f answer) c.in_ok-push.ensures.items
    (subst (λ (m : code.Request). message_with [] c.request_to.result ≡ request_message f answer c.self.inside.client.number c.loop-replica.replica (request_of m)) c.in_ok-copy.ensures c.request_to.ensures))

pub returns : goal.returns
returns c =
    let before = rw (← c.self.view_is) at c.loop-replica.invariant in
    let end_is : c.loop-replica.replica ≡ 2 * c.self.inside.config.f + 1 = omega (arith, c.group_size-replica-end.ensures.size) in
    let f = c.self.inside.config.f in
    let k = c.self.inside.client.number in
    let m = request_of c.in-Some.request in
    rw (← c.self.view_is, c.in-Some.is)
    (λ answer. subst (λ (n : ℕ). map (message_with []) c.loop-replica.sends.items ≡ retried f answer k n (Some m)) end_is (before f answer))
