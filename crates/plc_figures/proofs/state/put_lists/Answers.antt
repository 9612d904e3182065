use Rattle.std.proofs.Common.{ap}
use Rattle.plc_figures.specs.State.{notices_json, points_json}
use Rattle.plc_figures.proofs.Chains.{equally, then}
use Rattle.plc_figures.proofs.state.put_lists.Goals as goal

pub returns : goal.returns
returns c = then c.in_ok-put.ensures (then c.in_ok-put_number.ensures (then c.in_ok-put-2.ensures (then (equally (ap points_json c.as_slice.ensures.value) c.in_ok-put_points.ensures) (then c.in_ok-put-3.ensures (then (equally (ap points_json c.as_slice-2.ensures.value) c.in_ok-put_points-2.ensures) (then c.in_ok-put-4.ensures (then (equally (ap notices_json c.as_slice-3.ensures.value) c.in_ok-put_notices.ensures) c.in_ok-put-5.ensures)))))))
