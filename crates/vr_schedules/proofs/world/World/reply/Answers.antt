use Rattle.std.proofs.Common.{refl, get_or, ◌∙◌, sym}
use Rattle.vr_model.specs.Groups.{client_count}
use Rattle.vr_schedules.specs.declared.trace.Release.{Release}
use Rattle.vr_schedules.proofs.Lists.{reads}
use Rattle.vr_schedules.proofs.Clients.{heard_not_waiting, heard_waiting, release_at}
use Rattle.vr_schedules.proofs.world.World.reply.Goals as goal

pub returns-then-not-waited : goal.returns-then-not-waited
returns-then-not-waited g c =
    let client = c.args.client in
    heard_not_waiting g.M.Member.IsSavedAs g.M.Member.StandsFor c.args.self.now client.number client.number c.args.view c.args.number c.args.answer (get_or c.args.self.now.clients client.number c.index-self-client.result) c.hear.new.self
    refl client.below (reads c.args.self.now.clients client_count client.number c.index-self-client.result client.below) c.hear.ensures (sym c.waits_for-waited.ensures ∙ c.if-not-waited.true)

pub returns : goal.returns
returns g c =
    let client = c.args.client in
    let told : Release = record { event = c.len.result; client = client; number = c.args.number; answer = c.args.answer } in
    heard_waiting g.M.Member.IsSavedAs g.M.Member.StandsFor c.args.self.now client.number client.number c.args.view c.args.number c.args.answer (get_or c.args.self.now.clients client.number c.index-self-client.result) c.hear.new.self told _
    refl client.below (reads c.args.self.now.clients client_count client.number c.index-self-client.result client.below) c.hear.ensures (sym c.waits_for-waited.ensures ∙ c.if-not-waited.false) c.in_ok-push.ensures.items
    (release_at c.len.result _ client.number c.args.number c.args.answer told (c.len.ensures ∙ c.args.self.now.trace.lengths.ok.0) refl refl refl refl) refl refl refl refl
