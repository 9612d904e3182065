use Rattle.plc_figures.proofs.Chains.{then}
use Rattle.plc_figures.proofs.metrics.put_known_age.Goals as goal

pub returns : goal.returns
returns c = then c.in_ok-put_family.ensures c.in_ok-put_time.ensures
