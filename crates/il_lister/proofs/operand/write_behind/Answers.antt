use Rattle.il_lister.proofs.Cases.{behind_is}
use Rattle.il_lister.proofs.Parts.{stop, then}
use Rattle.il_lister.proofs.operand.write_behind.Goals as goal

pub returns-in_err-write_text : goal.returns-in_err-write_text
returns-in_err-write_text g c = rw (behind_is c.args.operand.now c.in_default.not-Absent) (stop _ c.from_residual.ensures.0 c.in_err-write_text.ensures)

pub returns : goal.returns
returns g c = rw (behind_is c.args.operand.now c.in_default.not-Absent) (then c.in_ok-write_text.ensures c.write_operand.ensures)
