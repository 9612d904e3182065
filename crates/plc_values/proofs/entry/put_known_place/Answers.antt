use Rattle.plc_figures.proofs.Chains.{then}
use Rattle.plc_values.proofs.entry.put_known_place.Goals as goal

pub returns : goal.returns
returns c = then c.in_ok-put.ensures (then c.in_ok-put_place.ensures c.in_ok-put-2.ensures)
