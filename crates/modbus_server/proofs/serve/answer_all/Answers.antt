use Rattle.std.proofs.Common.{◌≡◌, ◌+◌, ◌∷◌, [], ◌++◌, take, ap, sym, ◌∙◌}
use Rattle.std.proofs.lemmas.List.{take_more}
use Rattle.modbus_wire.specs.Frames.{Adu}
use Rattle.modbus_server.proofs.Sessions.{adds_more, answers_more, on_err}
use Rattle.modbus_server.proofs.serve.answer_all.Goals as goal

pub returns-in_err-write_to-clause-err : goal.returns-in_err-write_to-clause-err
returns-in_err-write_to-clause-err g c =
    let requests = c.args.requests.now in
    let i = c.loop-request.request-index in
    let u = c.request-item.result in
    let more : take (i + 1) requests ≡ take i requests ++ u ∷ [] = take_more requests i u c.loop-request-test.true ∙ ap (λ (a : Adu). take i requests ++ a ∷ []) (sym c.request-item.is) in
    on_err _ c.from_residual.result
    (answers_more (record { told = g.S.Staging.told c.args.staging.now; seen = c.args.outputs.now.released; limit = c.args.outputs.now.limit; access = c.args.outputs.now.access }) (record { told = g.S.Staging.told c.loop-request.staging; seen = c.loop-request.outputs.released; limit = c.loop-request.outputs.limit; access = c.loop-request.outputs.access }) (record { told = g.S.Staging.told c.answer-reply.new.staging; seen = c.answer-reply.new.outputs.released; limit = c.answer-reply.new.outputs.limit; access = c.answer-reply.new.outputs.access })
    requests i u c.answer-reply.result c.args.out.now.items c.loop-request.out.items c.args.counts.now c.loop-request.counts more c.loop-request.invariant c.answer-reply.ensures.is)

pub loop-request-preserved : goal.loop-request-preserved
loop-request-preserved g c =
    let requests = c.args.requests.now in
    let i = c.loop-request.request-index in
    let u = c.request-item.result in
    let more : take (i + 1) requests ≡ take i requests ++ u ∷ [] = take_more requests i u c.loop-request-test.true ∙ ap (λ (a : Adu). take i requests ++ a ∷ []) (sym c.request-item.is) in
    rw more
    (adds_more (record { told = g.S.Staging.told c.args.staging.now; seen = c.args.outputs.now.released; limit = c.args.outputs.now.limit; access = c.args.outputs.now.access }) (record { told = g.S.Staging.told c.loop-request.staging; seen = c.loop-request.outputs.released; limit = c.loop-request.outputs.limit; access = c.loop-request.outputs.access }) (record { told = g.S.Staging.told c.answer-reply.new.staging; seen = c.answer-reply.new.outputs.released; limit = c.answer-reply.new.outputs.limit; access = c.answer-reply.new.outputs.access })
    (take i requests) u c.answer-reply.result c.args.out.now.items c.loop-request.out.items c.write_to.new.out.items c.args.counts.now c.loop-request.counts c.count_reply.new.counts c.loop-request.invariant c.answer-reply.ensures.is c.in_ok-write_to.ensures c.count_reply.ensures)
