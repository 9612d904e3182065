use Rattle.std.proofs.Common.{[]}
use Rattle.std.proofs.lemmas.Result.{err_from_is_err_and}
use Rattle.il_loader.specs.Reading.{items_from}
use Rattle.il_records.specs.Fields.{constant_at}
use Rattle.il_loader.proofs.Loop.{goes_on, ends, is_done}
use Rattle.il_loader.proofs.reading.constants_of.Goals as goal

pub returns-in_err-one : goal.returns-in_err-one
returns-in_err-one c =
    let p = err_from_is_err_and c.from_residual.result c.from_residual.ensures.1 in
    rw (p.1, p.2) (ends c.in_err-one.field-0.0 (constant_at c.args.version c.args.total) c.args.count c.loop.counter c.loop.seen c.loop.rest.now (items_from (constant_at c.args.version c.args.total) c.args.count [] c.args.bytes.now) c.loop-test.true c.in_err-one.ensures c.loop.invariant)

pub loop-preserved : goal.loop-preserved
loop-preserved c = rw c.in_ok-seen.ensures (goes_on (constant_at c.args.version c.args.total) c.args.count c.loop.counter c.loop.seen c.loop.rest.now c.in_ok-one.one c.in_ok-one.after.now (items_from (constant_at c.args.version c.args.total) c.args.count [] c.args.bytes.now) c.loop-test.true c.in_ok-one.ensures c.loop.invariant)

pub returns : goal.returns
returns c = is_done (constant_at c.args.version c.args.total) c.args.count c.loop.counter c.loop.seen c.loop.rest.now (items_from (constant_at c.args.version c.args.total) c.args.count [] c.args.bytes.now) c.loop-test.false c.loop.invariant
