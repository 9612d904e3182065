use Rattle.plc_figures.proofs.Chains.{then}
use Rattle.plc_figures.proofs.state.put_exception_count.Goals as goal

pub returns : goal.returns
returns c = then c.in_ok-put_comma.ensures (then c.in_ok-put.ensures (then c.in_ok-put_number.ensures (then c.in_ok-put-2.ensures c.in_ok-put_number-2.ensures)))
