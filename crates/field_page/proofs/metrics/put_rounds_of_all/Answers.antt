use Rattle.std.proofs.Common.{arith}
use Rattle.field_page.specs.Metrics.{rounds_by}
use Rattle.plc_figures.proofs.Chains.{nothing}
use Rattle.plc_figures.proofs.Numbered.{all_plain, one_more}
use Rattle.field_page.proofs.metrics.put_rounds_of_all.Goals as goal

pub loop-device-init : goal.loop-device-init
loop-device-init c = nothing

pub loop-device-preserved : goal.loop-device-preserved
loop-device-preserved c = one_more rounds_by c.args.devices.now _ c.device-item.result (omega arith) c.device-item.is c.loop-device.invariant c.in_ok-put_rounds_by.ensures

pub returns : goal.returns
returns c = all_plain rounds_by c.args.devices.now _ c.loop-device-test.false c.loop-device.invariant
