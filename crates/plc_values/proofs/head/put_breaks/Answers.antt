use Rattle.std.proofs.Common.{arith}
use Rattle.plc_figures.proofs.Chains.{nothing}
use Rattle.plc_figures.proofs.Numbered.{all, more}
use Rattle.plc_values.specs.Values.{break_json}
use Rattle.plc_values.proofs.head.put_breaks.Goals as goal

pub loop-number-init : goal.loop-number-init
loop-number-init c = nothing

pub loop-number-preserved : goal.loop-number-preserved
loop-number-preserved c = more break_json c.args.positions.now _ _ (omega arith) c.loop-number.invariant c.in_ok-put_break.ensures

pub returns : goal.returns
returns c = all break_json c.args.positions.now _ c.loop-number-test.false c.loop-number.invariant
