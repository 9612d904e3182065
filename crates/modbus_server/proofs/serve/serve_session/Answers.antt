use Rattle.std.proofs.Common.{take}
use Rattle.modbus_server.specs.Sessions.{Images}
use Rattle.modbus_server.proofs.Sessions.{ends_unread, ends_with, goes_further}
use Rattle.modbus_server.proofs.serve.serve_session.Goals as goal

pub returns-in_default : goal.returns-in_default
returns-in_default g c =
    let before : Images = record { told = g.S.Staging.told c.args.staging.now; seen = c.args.outputs.now.released; limit = c.args.outputs.now.limit; access = c.args.outputs.now.access } in
    let after : Images = record { told = g.S.Staging.told c.loop.staging; seen = c.loop.outputs.released; limit = c.loop.outputs.limit; access = c.loop.outputs.access } in
    ends_unread (g.R.CountedRead.left c.args.reader.now) (g.R.CountedRead.left c.loop.reader) (g.R.CountedRead.left c.read.new.self)
    (g.R.CountedRead.faults c.args.reader.now) (g.R.CountedRead.faults c.loop.reader) (g.R.CountedRead.faults c.read.new.self)
    (g.W.CountedWrite.held c.args.writer.now) (g.W.CountedWrite.held c.loop.writer) (g.W.CountedWrite.faults c.args.writer.now) (g.W.CountedWrite.faults c.loop.writer)
    before after c.loop.buffers.session c.loop.invariant c.in_default.ensures.bytes c.in_default.ensures.device c.in_default.ensures.counts

pub returns-in-Err : goal.returns-in-Err
returns-in-Err g c =
    let before : Images = record { told = g.S.Staging.told c.args.staging.now; seen = c.args.outputs.now.released; limit = c.args.outputs.now.limit; access = c.args.outputs.now.access } in
    let between : Images = record { told = g.S.Staging.told c.loop.staging; seen = c.loop.outputs.released; limit = c.loop.outputs.limit; access = c.loop.outputs.access } in
    let after : Images = record { told = g.S.Staging.told c.serve_piece.new.staging; seen = c.serve_piece.new.outputs.released; limit = c.serve_piece.new.outputs.limit; access = c.serve_piece.new.outputs.access } in
    ends_with c.know_any_pieces.ensures c.in-Err.end (g.R.CountedRead.left c.args.reader.now) (g.R.CountedRead.left c.loop.reader) (g.R.CountedRead.left c.read.new.self)
    (g.R.CountedRead.faults c.args.reader.now) (g.R.CountedRead.faults c.loop.reader) (g.R.CountedRead.faults c.read.new.self)
    (g.W.CountedWrite.held c.args.writer.now) (g.W.CountedWrite.held c.loop.writer) (g.W.CountedWrite.held c.serve_piece.new.writer)
    (g.W.CountedWrite.faults c.args.writer.now) (g.W.CountedWrite.faults c.loop.writer) (g.W.CountedWrite.faults c.serve_piece.new.writer)
    before between after c.loop.buffers.session (take c.in-Ok.count c.read.new.buf) c.loop.invariant c.in-Ok.ensures.bytes.0 c.in-Err.ensures.served c.in-Err.ensures.counts

pub loop-preserved : goal.loop-preserved
loop-preserved g c =
    let before : Images = record { told = g.S.Staging.told c.args.staging.now; seen = c.args.outputs.now.released; limit = c.args.outputs.now.limit; access = c.args.outputs.now.access } in
    let between : Images = record { told = g.S.Staging.told c.loop.staging; seen = c.loop.outputs.released; limit = c.loop.outputs.limit; access = c.loop.outputs.access } in
    let after : Images = record { told = g.S.Staging.told c.serve_piece.new.staging; seen = c.serve_piece.new.outputs.released; limit = c.serve_piece.new.outputs.limit; access = c.serve_piece.new.outputs.access } in
    goes_further c.know_any_pieces.ensures (g.R.CountedRead.left c.args.reader.now) (g.R.CountedRead.left c.loop.reader) (g.R.CountedRead.left c.read.new.self)
    (g.R.CountedRead.faults c.args.reader.now) (g.R.CountedRead.faults c.loop.reader) (g.R.CountedRead.faults c.read.new.self)
    (g.W.CountedWrite.held c.args.writer.now) (g.W.CountedWrite.held c.loop.writer) (g.W.CountedWrite.held c.serve_piece.new.writer)
    (g.W.CountedWrite.faults c.args.writer.now) (g.W.CountedWrite.faults c.loop.writer) (g.W.CountedWrite.faults c.serve_piece.new.writer)
    before between after c.loop.buffers.session c.serve_piece.new.buffers.session (take c.in-Ok.count c.read.new.buf) c.loop.invariant c.in-Ok.ensures.bytes.0 c.in-Ok.ensures.counts
    c.in_default-serve_piece.ensures.served.0 c.in_default-serve_piece.ensures.served.1 c.in_default-serve_piece.ensures.counts
