use Rattle.std.proofs.Common.{ap}
use Rattle.std.specs.Prelude.{decimal}
use Rattle.plc_figures.proofs.Chains.{equally, then}
use Rattle.field_page.proofs.state.put_rounds.Goals as goal

pub returns : goal.returns
returns c = then c.in_ok-put.ensures (then c.in_ok-put_flag.ensures (then c.in_ok-put-2.ensures (then (equally (ap decimal c.sum_of.ensures) c.in_ok-put_number.ensures) (then c.in_ok-put-3.ensures (then c.in_ok-put_millis.ensures (then c.in_ok-put-4.ensures (then c.in_ok-put_millis-2.ensures c.in_ok-put-5.ensures)))))))
