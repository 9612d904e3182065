use Rattle.std.proofs.Common.{take}
use Rattle.plc_console.specs.Sessions.{scene}
use Rattle.plc_console.proofs.Sessions.{ends_unread, ends_with, goes_further, starts}
use Rattle.plc_console.proofs.session.serve_console.Goals as goal

pub loop-init : goal.loop-init
loop-init g c =
    starts (g.R.CountedRead.left c.args.reader.now) (g.R.CountedRead.faults c.args.reader.now) (g.W.CountedWrite.faults c.args.writer.now) c.new-intake.result
    (scene (g.D.Submits.answered c.args.desk.now) (g.W.CountedWrite.held c.args.writer.now) c.args.image.now) c.new-intake.ensures.line c.new-intake.ensures.refused

pub returns-in_default : goal.returns-in_default
returns-in_default g c =
    ends_unread (g.R.CountedRead.left c.args.reader.now) (g.R.CountedRead.left c.loop.reader) (g.R.CountedRead.left c.read.new.self)
    (g.R.CountedRead.faults c.args.reader.now) (g.R.CountedRead.faults c.loop.reader) (g.R.CountedRead.faults c.read.new.self)
    (g.W.CountedWrite.faults c.args.writer.now) (g.W.CountedWrite.faults c.loop.writer) c.loop.intake
    (scene (g.D.Submits.answered c.args.desk.now) (g.W.CountedWrite.held c.args.writer.now) c.args.image.now) (scene (g.D.Submits.answered c.loop.desk) (g.W.CountedWrite.held c.loop.writer) c.loop.image)
    c.loop.invariant c.in_default.ensures.bytes c.in_default.ensures.device c.in_default.ensures.counts

pub returns-in-Err : goal.returns-in-Err
returns-in-Err g c =
    ends_with c.in-Err.end (g.R.CountedRead.left c.args.reader.now) (g.R.CountedRead.left c.loop.reader) (g.R.CountedRead.left c.read.new.self)
    (g.R.CountedRead.faults c.args.reader.now) (g.R.CountedRead.faults c.loop.reader) (g.R.CountedRead.faults c.read.new.self)
    (g.W.CountedWrite.faults c.args.writer.now) (g.W.CountedWrite.faults c.loop.writer) (g.W.CountedWrite.faults c.serve_piece.new.writer) c.loop.intake
    (scene (g.D.Submits.answered c.args.desk.now) (g.W.CountedWrite.held c.args.writer.now) c.args.image.now) (scene (g.D.Submits.answered c.loop.desk) (g.W.CountedWrite.held c.loop.writer) c.loop.image)
    (scene (g.D.Submits.answered c.serve_piece.new.desk) (g.W.CountedWrite.held c.serve_piece.new.writer) c.serve_piece.new.image)
    (take c.in-Ok.count c.read.new.buf) c.loop.invariant c.in-Ok.ensures.bytes.0 c.in-Err.ensures.counts c.in-Err.ensures.served

pub loop-preserved : goal.loop-preserved
loop-preserved g c =
    goes_further (g.R.CountedRead.left c.args.reader.now) (g.R.CountedRead.left c.loop.reader) (g.R.CountedRead.left c.read.new.self)
    (g.R.CountedRead.faults c.args.reader.now) (g.R.CountedRead.faults c.loop.reader) (g.R.CountedRead.faults c.read.new.self)
    (g.W.CountedWrite.faults c.args.writer.now) (g.W.CountedWrite.faults c.loop.writer) (g.W.CountedWrite.faults c.serve_piece.new.writer) c.loop.intake c.serve_piece.new.intake
    (scene (g.D.Submits.answered c.args.desk.now) (g.W.CountedWrite.held c.args.writer.now) c.args.image.now) (scene (g.D.Submits.answered c.loop.desk) (g.W.CountedWrite.held c.loop.writer) c.loop.image)
    (scene (g.D.Submits.answered c.serve_piece.new.desk) (g.W.CountedWrite.held c.serve_piece.new.writer) c.serve_piece.new.image)
    (take c.in-Ok.count c.read.new.buf) c.loop.invariant c.in-Ok.ensures.bytes.0 c.in-Ok.ensures.counts
    c.in_default-serve_piece.ensures.counts c.in_default-serve_piece.ensures.served
