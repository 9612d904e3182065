use Rattle.std.proofs.Common.{◌≡◌, ◌+◌, length}
use Rattle.rtrb.specs.Ring.{known_items}
use Rattle.plc_trace.specs.Tracing.{Writes}
use Rattle.plc_trace.proofs.writer.TraceWriter.write_known.Given as goal

-- some were written, one a round, and as many are left as there are rounds to come
abbrev pub invariant-loop : goal.invariant-loop
invariant-loop g l = record {
  writes : Writes g.F.CountedWrite l.initial.self l.self l.initial.file l.file;
  count : length (known_items l.self.consumer) + l.counter ≡ length (known_items l.initial.self.consumer);
}
