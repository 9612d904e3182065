use Rattle.std.proofs.Common.{◌≡◌, ◌≤◌, length, take}
use Rattle.std.specs.Io.KnownBytes.{Consumes}
use Rattle.vr_threads.proofs.file_store.next_bytes.Given as goal

-- so many bytes were read, and stand at the front
abbrev pub invariant-loop-k : goal.invariant-loop-k
invariant-loop-k g l = record {
  read : Consumes (g.F.CountedRead.left l.initial.file) (g.F.CountedRead.left l.file) (take l.k l.bytes);
  room : length l.bytes ≡ 16;
  counts : g.F.CountedRead.faults l.initial.file ≤ g.F.CountedRead.faults l.file;
}
