use Rattle.std.proofs.Common.{arith}
use Rattle.vr_schedules.proofs.Lists.{got}
use Rattle.vr_schedules.proofs.Nodes.{crashed}
use Rattle.vr_schedules.proofs.world.World.crash.Goals as goal

pub returns : goal.returns
returns g c =
    crashed g.M.Member.IsSavedAs g.M.Member.StandsFor c.args.self.now c.in_ok-place.place c.args.replica c.index_mut.result.now c.crash.new.self
    c.in_ok-place.ensures.0 (omega (arith, c.in_ok-place.ensures.0, c.in_ok-place.ensures.1)) (got c.args.self.now.nodes.items c.in_ok-place.place c.index_mut.result.now (omega (arith, c.in_ok-place.ensures.0, c.in_ok-place.ensures.1)) c.index_mut.ensures.value)
    c.crash.ensures.used c.crash.ensures.store c.crash.ensures.down
