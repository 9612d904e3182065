use Rattle.std.proofs.Common.{◌≤◌, ◌-◌, length, take}
use Rattle.std.specs.Io.KnownBytes.{Appends}
use Rattle.io_model.proofs.counted.write_all.Given as goal

abbrev pub invariant-loop-done : goal.invariant-loop-done
invariant-loop-done g l = record {
  within : l.done ≤ length l.bytes;
  wrote : Appends (g.W.CountedWrite.held l.initial.writer) (g.W.CountedWrite.held l.writer) (take l.done l.bytes);
  counts : g.W.CountedWrite.faults l.initial.writer ≤ g.W.CountedWrite.faults l.writer;
}

abbrev pub decreases-loop-done : goal.decreases-loop-done
decreases-loop-done g l = length l.bytes - l.done
