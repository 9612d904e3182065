use Rattle.plc_console.specs.Sessions.{scene}
use Rattle.plc_console.proofs.Sessions.{extended}
use Rattle.plc_console.proofs.session.take_byte.Goals as goal

pub returns-else-byte-eq-LINE_END-clause-served : goal.returns-else-byte-eq-LINE_END-clause-served
returns-else-byte-eq-LINE_END-clause-served g c =
    extended c.extend.result c.args.byte c.args.intake.now.refused c.args.intake.now.line c.extend.new.line _
    (scene (g.D.Submits.answered c.args.desk.now) (g.W.CountedWrite.held c.args.writer.now) c.args.image.now) c.if-byte-eq-LINE_END.false c.extend.ensures
