use Rattle.plc_figures.proofs.Chains.{then}
use Rattle.field_page.proofs.state.put_device.Goals as goal

pub returns : goal.returns
returns c = then c.in_ok-put_comma.ensures (then c.in_ok-put_party.ensures c.in_ok-put_rounds.ensures)
