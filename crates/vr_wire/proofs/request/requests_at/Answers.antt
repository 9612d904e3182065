use Rattle.std.proofs.lemmas.Result.{err_from_is_err_and}
use Rattle.vr_wire.specs.MessageReading.{request_at}
use Rattle.vr_wire.specs.Reading.{items_at}
use Rattle.vr_wire.proofs.Items.{goes_on, ends, is_done}
use Rattle.vr_wire.proofs.request.requests_at.Goals as goal

pub returns-in_err-request : goal.returns-in_err-request
returns-in_err-request c =
    let p = err_from_is_err_and c.from_residual-in_err-request.result c.from_residual-in_err-request.ensures.1 in
    rw (p.1, p.2) (ends c.in_err-request.field-0.0 request_at c.loop.requests.items c.args.count c.loop.counter c.loop.rest.now (items_at request_at c.args.count c.args.bytes.now) c.loop-test.true c.in_err-request.ensures c.loop.invariant)

pub loop-preserved : goal.loop-preserved
loop-preserved c =
    rw c.in_ok-push.ensures.items (goes_on request_at c.loop.requests.items c.args.count c.loop.counter c.loop.rest.now c.in_ok-request.request c.in_ok-request.behind.now (items_at request_at c.args.count c.args.bytes.now) c.loop-test.true c.in_ok-request.ensures c.loop.invariant)

pub returns : goal.returns
returns c = is_done request_at c.loop.requests.items c.args.count c.loop.counter c.loop.rest.now (items_at request_at c.args.count c.args.bytes.now) c.loop-test.false c.loop.invariant
