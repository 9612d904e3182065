use Rattle.std.proofs.Common.{arith, refl, subst, sym}
use Rattle.vr_schedules.specs.Traces.{Fails}
use Rattle.vr_schedules.proofs.Reached.{first_at, next_at, fails_at, traced_at}
use Rattle.vr_schedules.proofs.schedule.run_schedule.Goals as goal

pub loop-index-init : goal.loop-index-init
loop-index-init g c = first_at g.M.Member.IsSavedAs g.M.Member.StandsFor c.args.config c.args.members.items c.args.events.now c.in_ok-world.world c.in_ok-world.ensures

pub returns : goal.returns
returns g c = traced_at c.laws.ensures g.M.Member.IsSavedAs g.M.Member.StandsFor c.args.config.f c.args.members.items c.args.events.now c.loop-index.index c.loop-index.world (omega arith) c.loop-index.invariant

pub loop-index-preserved : goal.loop-index-preserved
loop-index-preserved g c = next_at c.laws.ensures g.M.Member.IsSavedAs g.M.Member.StandsFor c.args.config.f c.args.members.items c.args.events.now c.loop-index.index c.index-events-index.result c.index-events-index.result c.loop-index.world c.happen.new.self c.in_default.field-0 (omega arith) c.index-events-index.is c.in_default.ensures c.loop-index.invariant

pub returns-in-Err : goal.returns-in-Err
returns-in-Err g c = λ group sized all. subst (Fails group c.args.events.now) (sym c.at.ensures)
    (fails_at c.laws.ensures g.M.Member.IsSavedAs g.M.Member.StandsFor c.args.config.f c.args.members.items c.args.events.now c.loop-index.index c.index-events-index.result c.index-events-index.result c.loop-index.world c.happen.new.self c.in-Err.fault (omega arith) c.index-events-index.is c.in-Err.ensures c.loop-index.invariant group sized all)
