use Rattle.plc_figures.proofs.Chains.{equally, then}
use Rattle.plc_page.proofs.page.put_hearing.Goals as goal

pub returns : goal.returns
returns c = then (equally c.majority_words.ensures c.in_ok-put.ensures) (then c.in_ok-put-2.ensures (then c.in_ok-put_small_number.ensures (then c.in_ok-put-3.ensures c.in_ok-put_small_number-2.ensures)))
