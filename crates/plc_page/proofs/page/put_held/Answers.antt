use Rattle.plc_figures.proofs.Chains.{then}
use Rattle.plc_page.proofs.page.put_held.Goals as goal

pub returns : goal.returns
returns c = then c.in_ok-put.ensures c.in_ok-put_number.ensures
