use Rattle.std.proofs.Common.{take}
use Rattle.modbus_server.specs.Sessions.{Adds}
use Rattle.modbus_server.proofs.serve.answer_all.Given as goal

abbrev pub invariant-loop-request : goal.invariant-loop-request
invariant-loop-request g l =
    Adds (record { told = g.S.Staging.told l.initial.staging; seen = l.initial.outputs.released; limit = l.initial.outputs.limit; access = l.initial.outputs.access }) (take l.request-index l.requests) l.initial.out.items l.out.items l.initial.counts l.counts (record { told = g.S.Staging.told l.staging; seen = l.outputs.released; limit = l.outputs.limit; access = l.outputs.access })
