use Rattle.plc_figures.proofs.Chains.{then}
use Rattle.field_page.proofs.page.put_tally.Goals as goal

pub returns : goal.returns
returns c = then c.in_ok-put.ensures (then c.in_ok-put_number.ensures (then c.in_ok-put-2.ensures (then c.in_ok-put_number-2.ensures (then c.in_ok-put-3.ensures (then c.in_ok-put_number-3.ensures (then c.in_ok-put-4.ensures (then c.in_ok-put_number-4.ensures c.in_ok-put-5.ensures)))))))
