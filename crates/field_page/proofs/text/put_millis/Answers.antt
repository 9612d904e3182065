use Rattle.plc_figures.proofs.Chains.{then}
use Rattle.field_page.proofs.text.put_millis.Goals as goal

pub returns : goal.returns
returns c = then c.in_ok-put_number.ensures (then c.in_ok-put.ensures c.in_ok-put_three.ensures)
