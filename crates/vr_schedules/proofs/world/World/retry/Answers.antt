use Rattle.std.proofs.Common.{refl, get_or, ◌∙◌, sym}
use Rattle.vr_model.specs.Groups.{client_count}
use Rattle.vr_schedules.proofs.Lists.{reads}
use Rattle.vr_schedules.proofs.Clients.{retries, waits_not}
use Rattle.vr_schedules.proofs.world.World.retry.Goals as goal

pub returns : goal.returns
returns g c =
    let client = c.in_ok-number.number in
    retries g.M.Member.IsSavedAs g.M.Member.StandsFor c.args.self.now client c.args.client (get_or c.args.self.now.clients client.number c.index-self-place.result) c.in-Some.request c.group_size-replicas.result _
    c.in_ok-number.ensures client.below (reads c.args.self.now.clients client_count client.number c.index-self-place.result client.below)
    (sym c.in_ok-request.ensures ∙ c.in-Some.is) c.group_size-replicas.ensures.size c.in_ok-send_to_all.ensures refl refl refl refl

pub returns-in_default : goal.returns-in_default
returns-in_default g c =
    let client = c.in_ok-number.number in
    waits_not g.M.Member.IsSavedAs g.M.Member.StandsFor c.args.self.now client.number c.args.client (get_or c.args.self.now.clients client.number c.index-self-place.result)
    c.in_ok-number.ensures client.below (reads c.args.self.now.clients client_count client.number c.index-self-place.result client.below) (sym c.in_ok-request.ensures ∙ c.in_default.is)
