use Rattle.std.proofs.Common.{ap}
use Rattle.plc_figures.specs.Metrics.{group_metrics}
use Rattle.plc_figures.proofs.Chains.{equally, then}
use Rattle.plc_figures.proofs.metrics.put_metrics.Goals as goal

pub returns : goal.returns
returns c = then c.in_ok-put_build.ensures (then c.in_ok-put_scans.ensures (then c.in_ok-put_forces.ensures (then (equally (ap group_metrics c.as_slice.ensures.value) c.in_ok-put_group.ensures) (then c.in_ok-put_machine.ensures (then c.in_ok-put_clients.ensures c.in_ok-put_process.ensures)))))
