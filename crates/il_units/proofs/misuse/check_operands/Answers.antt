use Rattle.std.proofs.Common.{map, false}
use Rattle.std.proofs.lemmas.Result.{err_from_is_err_and}
use Rattle.il_reader.specs.Grammar.{operand}
use Rattle.il_units.specs.Expansion.{scope_text}
use Rattle.il_units.specs.Misuse.{first_fault, operand_fault}
use Rattle.il_units.proofs.Checks.{goes_on, ends, is_done}
use Rattle.il_units.proofs.misuse.check_operands.Goals as goal

pub returns-in_err-check_operand : goal.returns-in_err-check_operand
returns-in_err-check_operand c =
    let p = err_from_is_err_and c.from_residual.result c.from_residual.ensures.1 in
    rw (p.1, p.2) (ends c.in_err-check_operand.field-0.0 (operand_fault (scope_text c.args.scope) false) operand c.args.xs.now c.loop-x.x-index _ (first_fault (operand_fault (scope_text c.args.scope) false) (map operand c.args.xs.now)) c.loop-x-test.true c.in_err-check_operand.ensures c.loop-x.invariant)

pub loop-x-preserved : goal.loop-x-preserved
loop-x-preserved c = goes_on (operand_fault (scope_text c.args.scope) false) operand c.args.xs.now c.loop-x.x-index _ (first_fault (operand_fault (scope_text c.args.scope) false) (map operand c.args.xs.now)) c.loop-x-test.true c.in_ok-check_operand.ensures c.loop-x.invariant

pub returns : goal.returns
returns c = is_done (operand_fault (scope_text c.args.scope) false) operand c.args.xs.now c.loop-x.x-index (first_fault (operand_fault (scope_text c.args.scope) false) (map operand c.args.xs.now)) c.loop-x-test.false c.loop-x.invariant
