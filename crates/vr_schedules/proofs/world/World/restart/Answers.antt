use Rattle.std.proofs.Common.{arith, rules}
use Rattle.vr_schedules.proofs.Lists.{got}
use Rattle.vr_schedules.proofs.Nodes.{restarts_went, restarts_not}
use Rattle.vr_schedules.proofs.world.World.restart.Goals as goal

pub returns : goal.returns
returns g c =
    restarts_went g.M.Member.IsSavedAs g.M.Member.StandsFor c.args.self.now c.act.new.self c.in_ok-place.place c.args.replica c.args.nonce c.index_mut.result.now c.take_nonce.new.self c.act.result
    c.in_ok-place.ensures.0 (omega (arith, c.in_ok-place.ensures.0, c.in_ok-place.ensures.1)) (got c.args.self.now.nodes.items c.in_ok-place.place c.index_mut.result.now (omega (arith, c.in_ok-place.ensures.0, c.in_ok-place.ensures.1)) c.index_mut.ensures.value)
    c.in_ok-take_nonce.ensures.step c.in_ok-take_nonce.ensures.member c.in_ok-take_nonce.ensures.store c.in_ok-take_nonce.ensures.used c.act.ensures

pub returns-in_err-take_nonce : goal.returns-in_err-take_nonce
returns-in_err-take_nonce g c =
    restarts_not g.M.Member.IsSavedAs g.M.Member.StandsFor c.args.self.now _ c.in_ok-place.place c.args.replica c.args.nonce c.index_mut.result.now c.in_err-take_nonce.field-0.0 c.from_residual-in_err-take_nonce.result
    c.in_ok-place.ensures.0 (omega (arith, c.in_ok-place.ensures.0, c.in_ok-place.ensures.1)) (got c.args.self.now.nodes.items c.in_ok-place.place c.index_mut.result.now (omega (arith, c.in_ok-place.ensures.0, c.in_ok-place.ensures.1)) c.index_mut.ensures.value)
    c.in_err-take_nonce.ensures.step (search rules)
