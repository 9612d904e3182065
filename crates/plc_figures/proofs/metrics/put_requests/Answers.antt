use Rattle.plc_figures.proofs.Chains.{then}
use Rattle.plc_figures.proofs.metrics.put_requests.Goals as goal

pub returns : goal.returns
returns c = then c.in_ok-put_family.ensures (then c.in_ok-put_functions.ensures (then c.in_ok-put_family-2.ensures c.in_ok-put_exceptions.ensures))
