use Rattle.field_page.specs.State.{device_json}
use Rattle.plc_figures.proofs.Numbered.{texts_before}
use Rattle.plc_figures.specs.Texts.{IsAdded}
use Rattle.field_page.proofs.state.put_devices.Given as goal

abbrev pub invariant-loop-number : goal.invariant-loop-number
invariant-loop-number l = IsAdded l.initial.out.items (texts_before device_json l.devices l.number) l.out.items
