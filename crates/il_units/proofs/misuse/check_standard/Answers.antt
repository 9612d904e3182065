use Rattle.std.proofs.Common.{map}
use Rattle.std.proofs.lemmas.Result.{err_from_is_err_and}
use Rattle.il_reader.specs.Grammar.{argument}
use Rattle.il_units.specs.Expansion.{scope_text}
use Rattle.il_units.specs.Misuse.{first_fault, standard_fault}
use Rattle.il_units.proofs.Checks.{goes_on, ends, is_done}
use Rattle.il_units.proofs.misuse.check_standard.Goals as goal

pub returns-in_err-check_standard_argument : goal.returns-in_err-check_standard_argument
returns-in_err-check_standard_argument c =
    let p = err_from_is_err_and c.from_residual.result c.from_residual.ensures.1 in
    rw (p.1, p.2) (ends c.in_err-check_standard_argument.field-0.0 (standard_fault (scope_text c.args.scope)) argument c.args.args.now c.loop-a.a-index _ (first_fault (standard_fault (scope_text c.args.scope)) (map argument c.args.args.now)) c.loop-a-test.true c.in_err-check_standard_argument.ensures c.loop-a.invariant)

pub loop-a-preserved : goal.loop-a-preserved
loop-a-preserved c = goes_on (standard_fault (scope_text c.args.scope)) argument c.args.args.now c.loop-a.a-index _ (first_fault (standard_fault (scope_text c.args.scope)) (map argument c.args.args.now)) c.loop-a-test.true c.in_ok-check_standard_argument.ensures c.loop-a.invariant

pub returns : goal.returns
returns c = is_done (standard_fault (scope_text c.args.scope)) argument c.args.args.now c.loop-a.a-index (first_fault (standard_fault (scope_text c.args.scope)) (map argument c.args.args.now)) c.loop-a-test.false c.loop-a.invariant
