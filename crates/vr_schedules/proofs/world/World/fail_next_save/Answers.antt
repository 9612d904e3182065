use Rattle.std.proofs.Common.{arith}
use Rattle.vr_schedules.proofs.Lists.{got}
use Rattle.vr_schedules.proofs.Nodes.{store_fails}
use Rattle.vr_schedules.proofs.world.World.fail_next_save.Goals as goal

pub returns : goal.returns
returns g c =
    store_fails g.M.Member.IsSavedAs g.M.Member.StandsFor c.args.self.now c.in_ok-place.place c.args.replica c.index_mut.result.now c.fail_next_save.new.self c.args.kept
    c.in_ok-place.ensures.0 (omega (arith, c.in_ok-place.ensures.0, c.in_ok-place.ensures.1)) (got c.args.self.now.nodes.items c.in_ok-place.place c.index_mut.result.now (omega (arith, c.in_ok-place.ensures.0, c.in_ok-place.ensures.1)) c.index_mut.ensures.value)
    c.fail_next_save.ensures
