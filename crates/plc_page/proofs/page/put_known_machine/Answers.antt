use Rattle.plc_figures.proofs.Chains.{equally, then}
use Rattle.plc_page.proofs.page.put_known_machine.Goals as goal

pub returns : goal.returns
returns c = then c.in_ok-put.ensures (then c.in_ok-put_small_number.ensures (then (equally c.course_words.ensures c.in_ok-put-2.ensures) (then c.in_ok-put-3.ensures (then c.in_ok-put_number.ensures (then c.in_ok-put_hearing.ensures c.in_ok-put-4.ensures)))))
