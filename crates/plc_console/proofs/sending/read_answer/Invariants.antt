use Rattle.std.specs.Prelude.{◌≤◌}
use Rattle.std.specs.Io.KnownBytes.{Consumes}
use Rattle.plc_console.proofs.sending.read_answer.Given as goal

-- what was read so far is the answer, and the reader's failures are counted
abbrev pub invariant-loop : goal.invariant-loop
invariant-loop g l = Consumes (g.R.CountedRead.left l.initial.reader) (g.R.CountedRead.left l.reader) l.answer.items
    × (g.R.CountedRead.faults l.initial.reader ≤ g.R.CountedRead.faults l.reader)
