use Rattle.std.proofs.Common.{arith}
use Rattle.field_page.specs.Page.{device_line}
use Rattle.plc_figures.proofs.Chains.{nothing}
use Rattle.plc_figures.proofs.Numbered.{all_plain, one_more}
use Rattle.field_page.proofs.page.put_devices.Goals as goal

pub loop-device-init : goal.loop-device-init
loop-device-init c = nothing

pub loop-device-preserved : goal.loop-device-preserved
loop-device-preserved c = one_more device_line c.args.devices.now _ c.device-item.result (omega arith) c.device-item.is c.loop-device.invariant c.in_ok-put_device.ensures

pub returns : goal.returns
returns c = all_plain device_line c.args.devices.now _ c.loop-device-test.false c.loop-device.invariant
