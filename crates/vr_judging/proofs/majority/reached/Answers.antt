use Rattle.std.proofs.Common.{sym, arith}
use Rattle.vr_judging.proofs.Counting.{reached_tried}
use Rattle.vr_judging.proofs.majority.reached.Goals as goal

pub returns-clause-reached : goal.returns-clause-reached
returns-clause-reached c = sym (reached_tried c.args.config.f c.args.number c.args.acknowledged.now c.args.op_number c.loop-s.s c.loop-s.reached c.args.config.at_least_one (omega arith) c.loop-s.invariant)
