use Rattle.std.proofs.Common.{refl}
use Rattle.vr_durable.proofs.Saying.{held_takes, held_puts, down_alone, missed, misses, misses_all}
use Rattle.vr_durable.proofs.durable.Durable.take_up.Goals as goal

pub returns-in-Ok-clause-taken : goal.returns-in-Ok-clause-taken
returns-in-Ok-clause-taken c =
    held_takes c.hold.result c.args.self.now (record c.args.self.now { replica = c.step.new.replica; pending = c.put.new.self }) c.hold.new.self c.args.event c.in-Ok.sends.items c.in-Ok.ensures.ok refl c.hold.ensures.held c.hold.ensures.replica

pub returns-in-Ok-clause-put : goal.returns-in-Ok-clause-put
returns-in-Ok-clause-put c = held_puts c.hold.result c.args.self.now.pending c.args.event c.put.new.self c.hold.new.self.pending c.in_ok-put.ensures.put c.hold.ensures.pending

pub returns-in-Ok-clause-missed : goal.returns-in-Ok-clause-missed
returns-in-Ok-clause-missed c = down_alone _ c.hold.result c.hold.ensures.down

pub returns-in-Ok-clause-taken_back : goal.returns-in-Ok-clause-taken_back
returns-in-Ok-clause-taken_back c = down_alone _ c.hold.result c.hold.ensures.down

pub returns-in-Err-clause-missed : goal.returns-in-Err-clause-missed
returns-in-Err-clause-missed c = λ up. misses c.args.self.now _ c.args.event c.step.new.replica c.in-Err.ensures.err refl refl

pub returns-in_err-put-clause-missed : goal.returns-in_err-put-clause-missed
returns-in_err-put-clause-missed c = missed _ c.from_residual.result (misses_all c.args.self.now (record c.args.self.now { pending = c.put.new.self }) c.args.event refl refl)
