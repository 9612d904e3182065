use Rattle.std.proofs.Common.{arith}
use Rattle.plc_page.specs.Page.{point_line}
use Rattle.plc_figures.proofs.Chains.{nothing}
use Rattle.plc_figures.proofs.Numbered.{all_plain, one_more}
use Rattle.plc_page.proofs.page.put_points.Goals as goal

pub loop-point-init : goal.loop-point-init
loop-point-init c = nothing

pub loop-point-preserved : goal.loop-point-preserved
loop-point-preserved c = one_more point_line c.args.points.now _ c.point-item.result (omega arith) c.point-item.is c.loop-point.invariant c.in_ok-put_point.ensures

pub returns : goal.returns
returns c = all_plain point_line c.args.points.now _ c.loop-point-test.false c.loop-point.invariant
