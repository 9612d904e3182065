use Rattle.std.proofs.Common.{[], arith, sym, ap, ◌∙◌}
use Rattle.std.specs.Prelude.{is_some}
use Rattle.il_model.specs.Faulty.{faulty_argument}
use Rattle.il_model.proofs.FaultyWords.{has_fault, has_none, all_gone}
use Rattle.il_model.proofs.faulty.faulty_argument.Goals as goal

pub returns-then-is_some-clause-place : goal.returns-then-is_some-clause-place
returns-then-is_some-clause-place c =
    has_fault c.args.program.now c.args.kind c.args.arguments.now c.loop-i.i c.index-arguments-i.result (faulty_argument c.args.program.now c.args.kind [] c.args.arguments.now)
    c.loop-i-test.true c.index-arguments-i.is (ap is_some (sym c.argument_fault.ensures) ∙ sym c.is_some.ensures ∙ c.if-is_some.true) c.loop-i.invariant

pub returns-clause-place : goal.returns-clause-place
returns-clause-place c = all_gone c.args.program.now c.args.kind c.args.arguments.now (faulty_argument c.args.program.now c.args.kind [] c.args.arguments.now) c.loop-i.i (omega arith) c.loop-i.invariant

pub loop-i-preserved : goal.loop-i-preserved
loop-i-preserved c =
    has_none c.args.program.now c.args.kind c.args.arguments.now c.loop-i.i c.index-arguments-i.result (faulty_argument c.args.program.now c.args.kind [] c.args.arguments.now)
    c.loop-i-test.true c.index-arguments-i.is (ap is_some (sym c.argument_fault.ensures) ∙ sym c.is_some.ensures ∙ c.if-is_some.false) c.loop-i.invariant
