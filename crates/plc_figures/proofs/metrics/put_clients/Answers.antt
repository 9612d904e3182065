use Rattle.plc_figures.proofs.Chains.{then}
use Rattle.plc_figures.proofs.metrics.put_clients.Goals as goal

pub returns : goal.returns
returns c = then c.in_ok-put_sessions.ensures c.in_ok-put_requests.ensures
