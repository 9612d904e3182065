use Rattle.plc_figures.proofs.Chains.{then}
use Rattle.plc_values.proofs.entry.put_entry.Goals as goal

pub returns : goal.returns
returns c = then c.in_ok-put_comma.ensures (then c.in_ok-put.ensures (then c.in_ok-put_string.ensures (then c.in_ok-put-2.ensures (then c.in_ok-put_place_json.ensures (then c.in_ok-put-3.ensures (then c.in_ok-put_flag.ensures (then c.in_ok-put-4.ensures (then c.in_ok-put_typed.ensures c.in_ok-put-5.ensures))))))))
