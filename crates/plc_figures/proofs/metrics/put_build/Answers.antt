use Rattle.plc_figures.proofs.Chains.{then}
use Rattle.plc_figures.proofs.metrics.put_build.Goals as goal

pub returns : goal.returns
returns c = then c.in_ok-put_family.ensures (then c.in_ok-put.ensures (then c.in_ok-put-2.ensures c.in_ok-put-3.ensures))
