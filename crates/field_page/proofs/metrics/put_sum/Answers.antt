use Rattle.plc_figures.proofs.Chains.{then}
use Rattle.field_page.proofs.metrics.put_sum.Goals as goal

pub returns : goal.returns
returns c = then c.in_ok-put.ensures (then c.in_ok-put_within.ensures (then c.in_ok-put-2.ensures (then c.in_ok-put_millis.ensures c.in_ok-put-3.ensures)))
