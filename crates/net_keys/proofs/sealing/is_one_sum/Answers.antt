use Rattle.std.proofs.Common.{arith}
use Rattle.net_keys.proofs.Alike.{alike_next}
use Rattle.net_keys.proofs.sealing.is_one_sum.Goals as goal

pub loop-at-preserved : goal.loop-at-preserved
loop-at-preserved c = alike_next _ _ _ _ (omega arith) (omega arith) c.loop-at.invariant
