use Rattle.plc_figures.proofs.Chains.{then}
use Rattle.field_page.proofs.metrics.put_controller.Goals as goal

pub returns : goal.returns
returns c = then c.in_ok-put_family.ensures (then c.in_ok-put_address.ensures (then c.in_ok-put_counter.ensures c.in_ok-put_counter-2.ensures))
