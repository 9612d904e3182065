use Rattle.plc_figures.proofs.Chains.{then}
use Rattle.plc_figures.proofs.state.put_known_machine.Goals as goal

pub returns : goal.returns
returns c = then c.in_ok-put.ensures (then c.in_ok-put_small_number.ensures (then c.in_ok-put-2.ensures (then c.in_ok-put_number.ensures (then c.in_ok-put-3.ensures (then c.in_ok-put_flag.ensures (then c.in_ok-put-4.ensures (then c.in_ok-put_small_number-2.ensures (then c.in_ok-put-5.ensures (then c.in_ok-put_small_number-3.ensures (then c.in_ok-put-6.ensures (then c.in_ok-put_flag-2.ensures c.in_ok-put-7.ensures)))))))))))
