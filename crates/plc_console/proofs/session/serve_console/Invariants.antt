use Rattle.plc_console.specs.Sessions.{scene}
use Rattle.plc_console.proofs.Sessions.{GoesOn}
use Rattle.plc_console.proofs.session.serve_console.Given as goal

-- what was read so far was served
abbrev pub invariant-loop : goal.invariant-loop
invariant-loop g l =
    GoesOn (g.R.CountedRead.left l.initial.reader) (g.R.CountedRead.left l.reader) (g.R.CountedRead.faults l.initial.reader) (g.R.CountedRead.faults l.reader)
    (g.W.CountedWrite.faults l.initial.writer) (g.W.CountedWrite.faults l.writer) l.intake
    (scene (g.D.Submits.answered l.initial.desk) (g.W.CountedWrite.held l.initial.writer) l.initial.image) (scene (g.D.Submits.answered l.desk) (g.W.CountedWrite.held l.writer) l.image)
