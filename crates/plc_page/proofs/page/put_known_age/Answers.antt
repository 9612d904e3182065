use Rattle.plc_figures.proofs.Chains.{then}
use Rattle.plc_page.proofs.page.put_known_age.Goals as goal

pub returns : goal.returns
returns c = then c.in_ok-put.ensures (then c.in_ok-put_seconds.ensures c.in_ok-put-2.ensures)
