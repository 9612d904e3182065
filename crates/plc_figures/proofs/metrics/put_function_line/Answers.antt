use Rattle.plc_figures.proofs.Chains.{then}
use Rattle.plc_figures.proofs.metrics.put_function_line.Goals as goal

pub returns : goal.returns
returns c = then c.in_ok-put.ensures (then c.in_ok-put_function.ensures (then c.in_ok-put-2.ensures (then c.in_ok-put_number.ensures c.in_ok-put-3.ensures)))
