use Rattle.std.proofs.Common.{ap, decimal}
use Rattle.plc_figures.proofs.Chains.{equally, then}
use Rattle.plc_values.specs.Values.{breaks_json, forces_json, head_json}
use Rattle.plc_values.proofs.head.put_head.Goals as goal

pub returns : goal.returns
returns c = equally (ap head_json c.snapshot.view_is) (then c.in_ok-put.ensures (then c.in_ok-put_number.ensures (then c.in_ok-put-2.ensures (then c.in_ok-put_number-2.ensures (then c.in_ok-put-3.ensures (then (equally c.phase_name.ensures c.in_ok-put-4.ensures) (then c.in_ok-put-5.ensures (then (equally (ap decimal c.from.ensures) c.in_ok-put_number-3.ensures) (then c.in_ok-put-6.ensures (then (equally (ap breaks_json c.as_slice.ensures.value) c.in_ok-put_breaks.ensures) (then c.in_ok-put-7.ensures (then (equally (ap forces_json c.as_slice-2.ensures.value) c.in_ok-put_forces.ensures) c.in_ok-put-8.ensures))))))))))))
