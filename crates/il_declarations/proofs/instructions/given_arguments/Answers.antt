use Rattle.std.proofs.Common.{[], map}
use Rattle.std.proofs.lemmas.Result.{err_from_is_err_and}
use Rattle.il_reader.specs.Grammar.{argument}
use Rattle.il_declarations.specs.Walk.{pushed_argument, each}
use Rattle.il_declarations.proofs.Steps.{goes_on, ends, is_done}
use Rattle.il_declarations.proofs.instructions.given_arguments.Goals as goal

pub returns-in_err-push_argument : goal.returns-in_err-push_argument
returns-in_err-push_argument c =
    let p = err_from_is_err_and c.from_residual.result c.from_residual.ensures.1 in
    rw (p.1, p.2) (ends c.in_err-push_argument.field-0.0 (pushed_argument c.args.dialect c.args.known.now) argument c.loop-written.found.items c.args.given.now c.loop-written.written-index _ (each (pushed_argument c.args.dialect c.args.known.now) [] (map argument c.args.given.now)) c.loop-written-test.true c.in_err-push_argument.ensures c.loop-written.invariant)

pub loop-written-preserved : goal.loop-written-preserved
loop-written-preserved c = goes_on (pushed_argument c.args.dialect c.args.known.now) argument c.loop-written.found.items c.push_argument.new.found.items c.args.given.now c.loop-written.written-index _ (each (pushed_argument c.args.dialect c.args.known.now) [] (map argument c.args.given.now)) c.loop-written-test.true c.in_ok-push_argument.ensures c.loop-written.invariant

pub returns : goal.returns
returns c = is_done (pushed_argument c.args.dialect c.args.known.now) argument c.loop-written.found.items c.args.given.now c.loop-written.written-index (each (pushed_argument c.args.dialect c.args.known.now) [] (map argument c.args.given.now)) c.loop-written-test.false c.loop-written.invariant
