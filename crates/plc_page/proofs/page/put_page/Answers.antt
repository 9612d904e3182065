use Rattle.std.proofs.Common.{ap}
use Rattle.plc_page.specs.Page.{point_lines, replica_lines}
use Rattle.plc_figures.proofs.Chains.{equally, then}
use Rattle.plc_page.proofs.page.put_page.Goals as goal

pub returns : goal.returns
returns c = then c.in_ok-put_text.ensures (then c.in_ok-put_scans.ensures (then c.in_ok-put_machine.ensures (then (equally (ap replica_lines c.as_slice.ensures.value) c.in_ok-put_replicas.ensures) (then (equally (ap point_lines c.as_slice-2.ensures.value) c.in_ok-put_points.ensures) (then (equally (ap point_lines c.as_slice-3.ensures.value) c.in_ok-put_points-2.ensures) c.in_ok-put_text-2.ensures)))))
