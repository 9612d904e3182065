use Rattle.std.proofs.Common.{ap}
use Rattle.std.specs.List.{flat_map}
use Rattle.plc_figures.specs.Texts.{string_json}
use Rattle.field_page.specs.Texts.{escaped}
use Rattle.field_page.specs.declared.text.Within.TheVariants as places
use Rattle.field_page.specs.State.{devices_json}
use Rattle.plc_figures.proofs.Chains.{equally, then}
use Rattle.field_page.proofs.state.put_state.Goals as goal

pub returns : goal.returns
returns c = then c.in_ok-put.ensures (then (equally (ap string_json c.as_slice.ensures.value) c.in_ok-put_string.ensures) (then c.in_ok-put-2.ensures (then c.in_ok-put_number.ensures (then c.in_ok-put-3.ensures (then c.in_ok-put_party.ensures (then c.in_ok-put-4.ensures (then (equally (ap devices_json c.as_slice-2.ensures.value) c.in_ok-put_devices.ensures) (then c.in_ok-put-5.ensures (then (equally (ap (flat_map (escaped places.Json)) c.as_slice-3.ensures.value) c.in_ok-put_within.ensures) (then c.in_ok-put-6.ensures (then c.in_ok-put_notices.ensures c.in_ok-put-7.ensures)))))))))))
