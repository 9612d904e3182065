use Rattle.modbus_server.proofs.Sessions.{IsServed}
use Rattle.modbus_server.proofs.serve.serve_session.Given as goal

abbrev pub invariant-loop : goal.invariant-loop
invariant-loop g l =
    IsServed (g.R.CountedRead.left l.initial.reader) (g.R.CountedRead.left l.reader) (g.R.CountedRead.faults l.initial.reader) (g.R.CountedRead.faults l.reader)
    (g.W.CountedWrite.held l.initial.writer) (g.W.CountedWrite.held l.writer) (g.W.CountedWrite.faults l.initial.writer) (g.W.CountedWrite.faults l.writer)
    (record { told = g.S.Staging.told l.initial.staging; seen = l.initial.outputs.released; limit = l.initial.outputs.limit; access = l.initial.outputs.access }) (record { told = g.S.Staging.told l.staging; seen = l.outputs.released; limit = l.outputs.limit; access = l.outputs.access }) l.buffers.session
