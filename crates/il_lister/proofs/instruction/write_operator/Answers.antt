use Rattle.il_lister.proofs.Parts.{stop, then}
use Rattle.il_lister.proofs.instruction.write_operator.Goals as goal

pub returns-in_err-write_op : goal.returns-in_err-write_op
returns-in_err-write_op g c = stop _ c.from_residual.ensures.0 c.in_err-write_op.ensures

pub returns-in_err-write_letter : goal.returns-in_err-write_letter
returns-in_err-write_letter g c = then c.in_ok-write_op.ensures (stop _ c.from_residual-in_err-write_letter.ensures.0 c.in_err-write_letter.ensures)

pub returns-in_err-write_letter-2 : goal.returns-in_err-write_letter-2
returns-in_err-write_letter-2 g c = then c.in_ok-write_op.ensures (then c.in_ok-write_letter.ensures (stop _ c.from_residual-in_err-write_letter-2.ensures.0 c.in_err-write_letter-2.ensures))

pub returns : goal.returns
returns g c = then c.in_ok-write_op.ensures (then c.in_ok-write_letter.ensures (then c.in_ok-write_letter-2.ensures c.write_letter-3.ensures))
