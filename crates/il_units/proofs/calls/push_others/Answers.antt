use Rattle.il_reader.specs.Grammar.{operand}
use Rattle.il_units.specs.Calls.{other_input}
use Rattle.il_units.proofs.Inputs.{no_operand_left}
use Rattle.il_units.proofs.calls.push_others.Goals as goal

pub returns : goal.returns
returns c = no_operand_left (other_input c.args.scope.members.now c.args.f.now c.args.left) operand c.loop-x.rest.now c.args.others.now c.loop-x.x-index c.loop-x.lines.items _ c.loop-x-test.false c.loop-x.invariant
