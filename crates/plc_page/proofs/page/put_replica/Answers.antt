use Rattle.plc_figures.proofs.Chains.{equally, then}
use Rattle.plc_page.proofs.page.put_replica.Goals as goal

pub returns : goal.returns
returns c = then c.in_ok-put.ensures (then c.in_ok-put_small_number.ensures (then c.in_ok-put-2.ensures (then (equally c.phase_name.ensures c.in_ok-put-3.ensures) (then c.in_ok-put-4.ensures (then c.in_ok-put_number.ensures c.in_ok-put-5.ensures)))))
