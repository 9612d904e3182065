use Rattle.std.proofs.lemmas.Result.{err_from_is_err_and}
use Rattle.vr_wire.specs.MessageReading.{request_at}
use Rattle.vr_wire.specs.Reading.{items_at, end_of}
use Rattle.vr_wire.proofs.Items.{end_goes_on, end_fails, end_done}
use Rattle.vr_wire.proofs.request.requests_end.Goals as goal

pub returns-in_err-behind : goal.returns-in_err-behind
returns-in_err-behind c =
    let p = err_from_is_err_and c.from_residual.result c.from_residual.ensures.1 in
    rw (p.1, p.2) (end_fails c.in_err-behind.field-0.0 request_at c.args.count c.loop.counter c.loop.rest.now (end_of (items_at request_at c.args.count) c.args.bytes.now) c.loop-test.true c.in_err-behind.ensures c.loop.invariant)

pub loop-preserved : goal.loop-preserved
loop-preserved c = end_goes_on request_at c.args.count c.loop.counter c.loop.rest.now c.in_ok-behind.behind.now (end_of (items_at request_at c.args.count) c.args.bytes.now) c.loop-test.true c.in_ok-behind.ensures c.loop.invariant

pub returns : goal.returns
returns c = end_done request_at c.args.count c.loop.counter c.loop.rest.now (end_of (items_at request_at c.args.count) c.args.bytes.now) c.loop-test.false c.loop.invariant
