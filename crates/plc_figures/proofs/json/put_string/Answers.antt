use Rattle.plc_figures.proofs.Chains.{then}
use Rattle.plc_figures.proofs.json.put_string.Goals as goal

pub returns : goal.returns
returns c = then c.in_ok-put.ensures (then c.in_ok-put_characters.ensures c.in_ok-put-2.ensures)
