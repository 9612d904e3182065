use Rattle.std.proofs.Common.{arith}
use Rattle.field_page.specs.State.{device_json}
use Rattle.plc_figures.proofs.Chains.{nothing}
use Rattle.plc_figures.proofs.Numbered.{all, more_at}
use Rattle.field_page.proofs.state.put_devices.Goals as goal

pub loop-number-init : goal.loop-number-init
loop-number-init c = nothing

pub loop-number-preserved : goal.loop-number-preserved
loop-number-preserved c = more_at device_json c.args.devices.now _ _ (omega arith) c.index-devices-number.is c.loop-number.invariant c.in_ok-put_device.ensures

pub returns : goal.returns
returns c = all device_json c.args.devices.now _ c.loop-number-test.false c.loop-number.invariant
