use Rattle.std.proofs.Common.{refl, get_or, ap, ◌∙◌}
use Rattle.il_model.specs.declared.command.Command.{Command}
use Rattle.vr_model.specs.Groups.{client_count, primary}
use Rattle.vr_model.specs.World.{ClientState}
use Rattle.vr_schedules.proofs.Lists.{reads}
use Rattle.vr_schedules.proofs.Clients.{submitted}
use Rattle.vr_schedules.proofs.world.World.submit.Goals as goal

pub returns : goal.returns
returns g c =
    let client = c.in_ok-number.number in
    submitted g.M.Member.IsSavedAs g.M.Member.StandsFor c.args.self.now client c.args.client c.args.command.now (get_or c.args.self.now.clients client.number c.index-self-place.result) c.in_ok-next.next c.primary-primary.result c.in_ok-next.request c.request_message.result _
    c.in_ok-number.ensures client.below (reads c.args.self.now.clients client_count client.number c.index-self-place.result client.below)
    c.in_ok-next.ensures.step c.in_ok-next.ensures.client c.in_ok-next.ensures.request (c.primary-primary.ensures.primary ∙ ap (λ (x : ClientState Command). primary c.args.self.now.config.f x.view) c.in_ok-next.ensures.client) c.request_message.ensures c.in_ok-push.ensures.items refl refl refl refl
