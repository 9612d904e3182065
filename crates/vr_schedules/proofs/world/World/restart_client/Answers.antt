use Rattle.std.proofs.Common.{get_or}
use Rattle.vr_model.specs.Groups.{client_count}
use Rattle.vr_schedules.proofs.Lists.{reads}
use Rattle.vr_schedules.proofs.Clients.{restarted, starts_not}
use Rattle.vr_schedules.proofs.world.World.restart_client.Goals as goal

pub returns : goal.returns
returns g c =
    let client = c.in_ok-number.number in
    restarted g.M.Member.IsSavedAs g.M.Member.StandsFor c.args.self.now client.number c.args.client (get_or c.args.self.now.clients client.number c.index-self-place.result) c.in_ok-state.state
    c.in_ok-number.ensures client.below (reads c.args.self.now.clients client_count client.number c.index-self-place.result client.below)
    c.in_ok-state.ensures.step c.in_ok-state.ensures.client

pub returns-in_err-state : goal.returns-in_err-state
returns-in_err-state g c =
    let client = c.in_ok-number.number in
    starts_not g.M.Member.IsSavedAs g.M.Member.StandsFor c.args.self.now client.number c.args.client (get_or c.args.self.now.clients client.number c.index-self-place.result) c.in_err-state.field-0.0 c.from_residual-in_err-state.result
    c.in_ok-number.ensures client.below (reads c.args.self.now.clients client_count client.number c.index-self-place.result client.below)
    c.in_err-state.ensures.step c.from_residual-in_err-state.ensures.1
