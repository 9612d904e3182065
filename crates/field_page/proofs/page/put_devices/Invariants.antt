use Rattle.std.proofs.Common.{take}
use Rattle.std.specs.List.{flat_map}
use Rattle.field_page.specs.Page.{device_line}
use Rattle.plc_figures.specs.Texts.{IsAdded}
use Rattle.field_page.proofs.page.put_devices.Given as goal

abbrev pub invariant-loop-device : goal.invariant-loop-device
invariant-loop-device l = IsAdded l.initial.out.items (flat_map device_line (take l.device-index l.devices)) l.out.items
