use Rattle.vr_schedules.proofs.Replicas.{timed_out}
use Rattle.vr_schedules.proofs.world.World.timeout.Goals as goal

pub returns : goal.returns
returns g c =
    timed_out g.M.Member.IsSavedAs g.M.Member.StandsFor c.args.self.now c.act.new.self c.in_ok-place.place c.args.replica c.act.result c.in_ok-place.ensures.0 c.in_ok-place.ensures.1 c.act.ensures
