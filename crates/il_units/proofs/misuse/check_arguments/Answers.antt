use Rattle.std.proofs.Common.{[], map}
use Rattle.std.proofs.lemmas.Result.{err_from_is_err_and}
use Rattle.il_reader.specs.Grammar.{argument}
use Rattle.il_units.specs.Misuse.{arguments_fault}
use Rattle.il_units.proofs.Checks.{arguments_go_on, arguments_end, arguments_done}
use Rattle.il_units.proofs.misuse.check_arguments.Goals as goal

pub returns-in_err-check_argument : goal.returns-in_err-check_argument
returns-in_err-check_argument c =
    let p = err_from_is_err_and c.from_residual.result c.from_residual.ensures.1 in
    rw (p.1, p.2) (arguments_end c.in_err-check_argument.field-0.0 c.args.block.now argument c.args.args.now c.loop-i.i _ (arguments_fault c.args.block.now [] (map argument c.args.args.now)) c.loop-i-test.true c.in_err-check_argument.ensures c.loop-i.invariant)

pub loop-i-preserved : goal.loop-i-preserved
loop-i-preserved c = arguments_go_on c.args.block.now argument c.args.args.now c.loop-i.i _ (arguments_fault c.args.block.now [] (map argument c.args.args.now)) c.loop-i-test.true c.in_ok-check_argument.ensures c.loop-i.invariant

pub returns : goal.returns
returns c = arguments_done c.args.block.now argument c.args.args.now c.loop-i.i (arguments_fault c.args.block.now [] (map argument c.args.args.now)) c.loop-i-test.false c.loop-i.invariant
