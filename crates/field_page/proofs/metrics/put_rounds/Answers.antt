use Rattle.plc_figures.proofs.Chains.{then}
use Rattle.field_page.proofs.metrics.put_rounds.Goals as goal

pub returns : goal.returns
returns c = then c.in_ok-put_family.ensures c.in_ok-put_rounds_of_all.ensures
