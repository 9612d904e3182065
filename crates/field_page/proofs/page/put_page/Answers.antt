use Rattle.std.proofs.Common.{ap}
use Rattle.std.specs.List.{flat_map}
use Rattle.field_page.specs.Page.{device_lines}
use Rattle.field_page.specs.Texts.{escaped}
use Rattle.field_page.specs.declared.text.Within.TheVariants as places
use Rattle.plc_figures.proofs.Chains.{equally, then}
use Rattle.field_page.proofs.page.put_page.Goals as goal

pub returns : goal.returns
returns c = then c.in_ok-put_text.ensures (then c.in_ok-put_cycles.ensures (then c.in_ok-put_controller.ensures (then (equally (ap device_lines c.as_slice.ensures.value) c.in_ok-put_devices.ensures) (then c.in_ok-put.ensures (then (equally (ap (flat_map (escaped places.Html)) c.as_slice-2.ensures.value) c.in_ok-put_within.ensures) c.in_ok-put_text-2.ensures)))))
