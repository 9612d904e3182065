use Rattle.std.proofs.Common.{arith}
use Rattle.field_page.specs.Metrics.{figure_line}
use Rattle.plc_figures.proofs.Chains.{nothing}
use Rattle.plc_figures.proofs.Numbered.{all_plain, one_more}
use Rattle.field_page.proofs.metrics.put_figure_lines.Goals as goal

pub loop-device-init : goal.loop-device-init
loop-device-init c = nothing

pub loop-device-preserved : goal.loop-device-preserved
loop-device-preserved c = one_more (figure_line c.args.figure) c.args.devices.now _ c.device-item.result (omega arith) c.device-item.is c.loop-device.invariant c.in_ok-put_figure_line.ensures

pub returns : goal.returns
returns c = all_plain (figure_line c.args.figure) c.args.devices.now _ c.loop-device-test.false c.loop-device.invariant
