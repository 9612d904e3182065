use Rattle.std.proofs.Common.{arith}
use Rattle.vr_wire.proofs.Tables.{counted_next}
use Rattle.vr_wire.proofs.log.answered_count.Goals as goal

pub loop-executed-preserved : goal.loop-executed-preserved
loop-executed-preserved c =
    let i = c.loop-executed.executed-index in
    record {
      counted = counted_next c.args.clients.now i c.loop-executed.count c.answer_count-count.result c.executed-item.result c.executed-item.result c.loop-executed-test.true c.executed-item.is c.loop-executed.invariant.counted (c.answer_count-count.ensures.value i);
      few = omega (arith, c.loop-executed.invariant.few, c.answer_count-count.ensures.few);
    }
