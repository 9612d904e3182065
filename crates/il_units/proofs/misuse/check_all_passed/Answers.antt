use Rattle.std.proofs.Common.{map}
use Rattle.std.proofs.lemmas.Result.{err_from_is_err_and}
use Rattle.il_reader.specs.Grammar.{argument}
use Rattle.il_units.specs.Expansion.{scope_text}
use Rattle.il_units.specs.Misuse.{first_fault, passed_fault}
use Rattle.il_units.proofs.Checks.{goes_on, ends, is_done}
use Rattle.il_units.proofs.misuse.check_all_passed.Goals as goal

pub returns-in_err-check_passed : goal.returns-in_err-check_passed
returns-in_err-check_passed c =
    let p = err_from_is_err_and c.from_residual.result c.from_residual.ensures.1 in
    rw (p.1, p.2) (ends c.in_err-check_passed.field-0.0 (passed_fault (scope_text c.args.scope) c.args.block.now) argument c.args.args.now c.loop-a.a-index _ (first_fault (passed_fault (scope_text c.args.scope) c.args.block.now) (map argument c.args.args.now)) c.loop-a-test.true c.in_err-check_passed.ensures c.loop-a.invariant)

pub loop-a-preserved : goal.loop-a-preserved
loop-a-preserved c = goes_on (passed_fault (scope_text c.args.scope) c.args.block.now) argument c.args.args.now c.loop-a.a-index _ (first_fault (passed_fault (scope_text c.args.scope) c.args.block.now) (map argument c.args.args.now)) c.loop-a-test.true c.in_ok-check_passed.ensures c.loop-a.invariant

pub returns : goal.returns
returns c = is_done (passed_fault (scope_text c.args.scope) c.args.block.now) argument c.args.args.now c.loop-a.a-index (first_fault (passed_fault (scope_text c.args.scope) c.args.block.now) (map argument c.args.args.now)) c.loop-a-test.false c.loop-a.invariant
