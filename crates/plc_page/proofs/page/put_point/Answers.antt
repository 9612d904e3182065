use Rattle.plc_figures.proofs.Chains.{equally, then}
use Rattle.plc_page.proofs.page.put_point.Goals as goal

pub returns : goal.returns
returns c = then (equally c.as_slice.ensures.value c.in_ok-put.ensures) (then c.in_ok-put-2.ensures (then c.in_ok-put_place.ensures (then c.in_ok-put-3.ensures (then c.in_ok-put_value.ensures c.in_ok-put-4.ensures))))
