use Rattle.std.proofs.Common.{arith}
use Rattle.plc_figures.proofs.Chains.{nothing}
use Rattle.plc_figures.proofs.Numbered.{all, more_at}
use Rattle.plc_values.specs.Values.{force_json}
use Rattle.plc_values.proofs.head.put_forces.Goals as goal

pub loop-number-init : goal.loop-number-init
loop-number-init c = nothing

pub loop-number-preserved : goal.loop-number-preserved
loop-number-preserved c = more_at force_json c.args.forces.now _ _ (omega arith) c.index-forces-number.is c.loop-number.invariant c.in_ok-put_force.ensures

pub returns : goal.returns
returns c = all force_json c.args.forces.now _ c.loop-number-test.false c.loop-number.invariant
