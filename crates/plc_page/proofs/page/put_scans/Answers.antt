use Rattle.plc_figures.proofs.Chains.{then}
use Rattle.plc_page.proofs.page.put_scans.Goals as goal

pub returns : goal.returns
returns c = then c.in_ok-put.ensures (then c.in_ok-put_number.ensures (then c.in_ok-put_age.ensures (then c.in_ok-put_halt.ensures c.in_ok-put-2.ensures)))
