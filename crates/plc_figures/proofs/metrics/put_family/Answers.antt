use Rattle.plc_figures.proofs.Chains.{then}
use Rattle.plc_figures.proofs.metrics.put_family.Goals as goal

pub returns : goal.returns
returns c = then c.in_ok-put.ensures (then c.in_ok-put-2.ensures (then c.in_ok-put-3.ensures (then c.in_ok-put-4.ensures (then c.in_ok-put-5.ensures (then c.in_ok-put-6.ensures (then c.in_ok-put-7.ensures (then c.in_ok-put-8.ensures c.in_ok-put-9.ensures)))))))
