use Rattle.std.proofs.Common.{ap, decimal}
use Rattle.plc_figures.proofs.Chains.{equally, then}
use Rattle.plc_figures.proofs.state.put_clients.Goals as goal

pub returns : goal.returns
returns c = then c.in_ok-put.ensures (then c.in_ok-put_number.ensures (then c.in_ok-put-2.ensures (then c.in_ok-put_number-2.ensures (then c.in_ok-put-3.ensures (then (equally (ap decimal c.sum_of.ensures) c.in_ok-put_number-3.ensures) (then c.in_ok-put-4.ensures (then c.in_ok-put_functions.ensures (then c.in_ok-put-5.ensures (then c.in_ok-put_exceptions.ensures c.in_ok-put-6.ensures)))))))))
