use Rattle.vr_outbox.proofs.Flushes.{order, flushes}
use Rattle.vr_outbox.proofs.laws.nothing_leaves_before_its_flush.Goals as goal

pub returns-clause-order : goal.returns-clause-order
returns-clause-order c = order

pub returns-clause-flushed : goal.returns-clause-flushed
returns-clause-flushed c = flushes
