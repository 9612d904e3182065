use Rattle.std.proofs.Common.{ap}
use Rattle.plc_figures.specs.Texts.{string_json}
use Rattle.plc_figures.proofs.Chains.{equally, then}
use Rattle.plc_values.proofs.telling.put_unknown.Goals as goal

pub returns : goal.returns
returns c = then c.in_ok-put.ensures (then (equally (ap string_json c.as_bytes.ensures.value) c.in_ok-put_string.ensures) c.in_ok-put-2.ensures)
