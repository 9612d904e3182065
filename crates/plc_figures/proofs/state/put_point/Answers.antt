use Rattle.std.proofs.Common.{ap}
use Rattle.plc_figures.specs.Texts.{string_json}
use Rattle.plc_figures.proofs.Chains.{equally, then}
use Rattle.plc_figures.proofs.state.put_point.Goals as goal

pub returns : goal.returns
returns c = then c.in_ok-put_comma.ensures (then c.in_ok-put.ensures (then (equally (ap string_json c.as_slice.ensures.value) c.in_ok-put_string.ensures) (then c.in_ok-put-2.ensures (then c.in_ok-put_place.ensures (then c.in_ok-put-3.ensures (then c.in_ok-put_value_json.ensures c.in_ok-put-4.ensures))))))
