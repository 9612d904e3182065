use Rattle.std.proofs.Common.{arith}
use Rattle.plc_console.proofs.Keys.{alike_next}
use Rattle.plc_console.proofs.key.is_key.Goals as goal

pub loop-at-preserved : goal.loop-at-preserved
loop-at-preserved c = alike_next _ _ _ _ (omega arith) (omega arith) c.loop-at.invariant
