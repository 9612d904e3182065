use Rattle.std.proofs.Common.{arith}
use Rattle.plc_figures.specs.State.{point_json}
use Rattle.plc_figures.proofs.Chains.{nothing}
use Rattle.plc_figures.proofs.Numbered.{all, more_at}
use Rattle.plc_figures.proofs.state.put_points.Goals as goal

pub loop-number-init : goal.loop-number-init
loop-number-init c = nothing

pub loop-number-preserved : goal.loop-number-preserved
loop-number-preserved c = more_at point_json c.args.points.now _ _ (omega arith) c.index-points-number.is c.loop-number.invariant c.in_ok-put_point.ensures

pub returns : goal.returns
returns c = all point_json c.args.points.now _ c.loop-number-test.false c.loop-number.invariant
