use Rattle.il_reader.specs.Grammar.{operand}
use Rattle.il_units.proofs.Tests.{tests_next}
use Rattle.il_units.proofs.choices.push_tests.Goals as goal

pub loop-n-preserved : goal.loop-n-preserved
loop-n-preserved c = tests_next operand c.args.call.now c.args.left c.loop-n.n c.args.others.now c.loop-n.lines.items _ _ c.loop-n-test.true c.in_ok-push_test.ensures c.loop-n.invariant
