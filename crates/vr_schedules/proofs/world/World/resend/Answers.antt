use Rattle.vr_schedules.proofs.Replicas.{sent_again}
use Rattle.vr_schedules.proofs.world.World.resend.Goals as goal

pub returns : goal.returns
returns g c =
    sent_again g.M.Member.IsSavedAs g.M.Member.StandsFor c.args.self.now c.act.new.self c.in_ok-place.place c.args.replica c.act.result c.in_ok-place.ensures.0 c.in_ok-place.ensures.1 c.act.ensures
