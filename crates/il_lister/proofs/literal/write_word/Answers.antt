use Rattle.il_lister.proofs.Parts.{stop, then}
use Rattle.il_lister.proofs.literal.write_word.Goals as goal

pub returns-in_err-write_text : goal.returns-in_err-write_text
returns-in_err-write_text g c = stop _ c.from_residual.ensures.0 c.in_err-write_text.ensures

pub returns-in_err-write_area : goal.returns-in_err-write_area
returns-in_err-write_area g c = then c.in_ok-write_text.ensures (stop _ c.from_residual-in_err-write_area.ensures.0 c.in_err-write_area.ensures)

pub returns-in_err-write_text-2 : goal.returns-in_err-write_text-2
returns-in_err-write_text-2 g c = then c.in_ok-write_text.ensures (then c.in_ok-write_area.ensures (stop _ c.from_residual-in_err-write_text-2.ensures.0 c.in_err-write_text-2.ensures))

pub returns : goal.returns
returns g c = then c.in_ok-write_text.ensures (then c.in_ok-write_area.ensures (then c.in_ok-write_text-2.ensures c.write_decimal.ensures))
