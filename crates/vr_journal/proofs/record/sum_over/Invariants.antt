use Rattle.std.proofs.Common.{◌≡◌, drop}
use Rattle.vr_journal.specs.Records.{sum_over}
use Rattle.vr_journal.proofs.record.sum_over.Given as goal

abbrev pub invariant-loop-byte : goal.invariant-loop-byte
invariant-loop-byte l = sum_over l.behind (drop l.byte-index l.bytes) ≡ sum_over l.sum l.bytes
