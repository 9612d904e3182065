use Rattle.std.proofs.Common.{◌≡◌, length}
use Rattle.net_ends.specs.Ends.{Flushes}
use Rattle.net_ends.proofs.outbox.Outbox.flush.Given as goal

-- what was written so far went out, and the rest waits; the writer went on
abbrev pub invariant-loop-self : goal.invariant-loop-self
invariant-loop-self g l = record {
  bytes : Flushes (g.W.NonBlockingWrite.held l.initial.writer) (g.W.NonBlockingWrite.held l.writer) l.initial.self l.self;
  going : g.W.NonBlockingWrite.stops l.writer ≡ g.W.NonBlockingWrite.stops l.initial.writer;
}

abbrev pub decreases-loop-self : goal.decreases-loop-self
decreases-loop-self g l = length l.self
