use Rattle.plc_figures.proofs.Chains.{then}
use Rattle.plc_figures.proofs.metrics.put_scan_counts.Goals as goal

pub returns : goal.returns
returns c = then c.in_ok-put_counter.ensures (then c.in_ok-put_counter-2.ensures c.in_ok-put_counter-3.ensures)
