use Rattle.plc_figures.proofs.Chains.{then}
use Rattle.field_page.proofs.page.put_controller.Goals as goal

pub returns : goal.returns
returns c = then c.in_ok-put.ensures (then c.in_ok-put_party.ensures c.in_ok-put-2.ensures)
