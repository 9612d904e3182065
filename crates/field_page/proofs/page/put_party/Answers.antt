use Rattle.std.proofs.Common.{ap}
use Rattle.std.specs.List.{flat_map}
use Rattle.field_page.specs.Texts.{escaped}
use Rattle.field_page.specs.declared.text.Within.TheVariants as places
use Rattle.plc_figures.proofs.Chains.{equally, then}
use Rattle.field_page.proofs.page.put_party.Goals as goal

pub returns : goal.returns
returns c = then (equally (ap (flat_map (escaped places.Html)) c.as_slice.ensures.value) c.in_ok-put_within.ensures) (then c.in_ok-put.ensures (then (equally (c.state_name.ensures) c.in_ok-put-2.ensures) c.in_ok-put_tally.ensures))
