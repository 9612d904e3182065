use Rattle.std.proofs.Common.{ap}
use Rattle.plc_figures.proofs.Chains.{equally, then}
use Rattle.plc_values.specs.Values.{head_json, instances_json}
use Rattle.plc_values.proofs.telling.put_values.Goals as goal

pub returns : goal.returns
returns c = then (equally (ap head_json c.snapshot.ensures) c.in_ok-put_head.ensures) (then c.in_ok-put.ensures (then c.in_ok-put_variables.ensures.text (then c.in_ok-put-2.ensures (then (equally (ap instances_json c.in_ok-put_variables.ensures.same) c.in_ok-put_instances.ensures.text) c.in_ok-put-3.ensures))))
