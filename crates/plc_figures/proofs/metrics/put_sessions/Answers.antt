use Rattle.plc_figures.proofs.Chains.{then}
use Rattle.plc_figures.proofs.metrics.put_sessions.Goals as goal

pub returns : goal.returns
returns c = then c.in_ok-put_counter.ensures c.in_ok-put_gauge.ensures
