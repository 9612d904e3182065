use Rattle.std.proofs.Common.{ap}
use Rattle.plc_figures.proofs.Chains.{equally, then}
use Rattle.plc_values.specs.Values.{place_json}
use Rattle.plc_values.proofs.head.put_force.Goals as goal

pub returns : goal.returns
returns c = then c.in_ok-put_comma.ensures (then c.in_ok-put.ensures (then (equally (ap place_json c.of_code.ensures) c.in_ok-put_place_json.ensures) (then c.in_ok-put-2.ensures (then c.in_ok-put_value_json.ensures c.in_ok-put-3.ensures))))
