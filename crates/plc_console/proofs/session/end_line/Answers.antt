use Rattle.std.proofs.Common.{◌∷◌, [], refl}
use Rattle.plc_console.specs.Lines.{line_end}
use Rattle.plc_console.specs.Sessions.{scene}
use Rattle.plc_console.proofs.Sessions.{breaks_none, dismissed_line, ended_line}
use Rattle.plc_console.proofs.session.end_line.Goals as goal

pub returns-in_default-clause-served : goal.returns-in_default-clause-served
returns-in_default-clause-served g c = λ rest unended is.
    breaks_none rest (line_end ∷ []) c.args.intake.now.refused (scene (g.D.Submits.answered c.args.desk.now) (g.W.CountedWrite.held c.args.writer.now) c.args.image.now)

pub returns-then-not-stays-clause-served : goal.returns-then-not-stays-clause-served
returns-then-not-stays-clause-served g c = λ rest unended is.
    dismissed_line c.args.image.now rest c.in-Ok.wish c.args.intake.now.refused (g.D.Submits.answered c.args.desk.now) (g.W.CountedWrite.held c.args.writer.now)
    unended (c.if-not-stays.ensures.ends refl) (c.in-Ok.ensures rest is)

pub returns-clause-served : goal.returns-clause-served
returns-clause-served g c = λ rest unended is.
    ended_line c.take_turn.result rest c.in-Ok.wish c.args.intake.now.refused c.stays.new.refused c.clear.new.self _
    (scene (g.D.Submits.answered c.args.desk.now) (g.W.CountedWrite.held c.args.writer.now) c.args.image.now) (scene (g.D.Submits.answered c.take_turn.new.desk) (g.W.CountedWrite.held c.take_turn.new.writer) c.take_turn.new.image)
    c.clear.ensures unended (c.if-not-stays.ensures.stays refl) (c.in-Ok.ensures rest is) c.take_turn.ensures.took
