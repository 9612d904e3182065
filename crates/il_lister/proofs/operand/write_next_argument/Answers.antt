use Rattle.il_lister.proofs.Parts.{stop, then}
use Rattle.il_lister.proofs.operand.write_next_argument.Goals as goal

pub returns-in_err-write_text : goal.returns-in_err-write_text
returns-in_err-write_text g c = stop _ c.from_residual.ensures.0 c.in_err-write_text.ensures

pub returns : goal.returns
returns g c = then c.in_ok-write_text.ensures c.write_argument.ensures
