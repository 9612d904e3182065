use Rattle.il_lister.proofs.Parts.{equally, stop, then}
use Rattle.il_lister.proofs.operand.write_field.Goals as goal

pub returns-in_err-write_name : goal.returns-in_err-write_name
returns-in_err-write_name g c = stop _ c.from_residual.ensures.0 c.in_err-write_name.ensures

pub returns-in_err-write_text : goal.returns-in_err-write_text
returns-in_err-write_text g c = then c.in_ok-write_name.ensures (stop _ c.from_residual-in_err-write_text.ensures.0 (equally c.dot_between.ensures c.in_err-write_text.ensures))

pub returns : goal.returns
returns g c = then c.in_ok-write_name.ensures (then (equally c.dot_between.ensures c.in_ok-write_text.ensures) c.write_name-2.ensures)
