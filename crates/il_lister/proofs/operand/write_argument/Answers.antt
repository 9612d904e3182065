use Rattle.il_lister.proofs.Parts.{stop, then}
use Rattle.il_lister.proofs.operand.write_argument.Goals as goal

pub returns-in_err-write_name : goal.returns-in_err-write_name
returns-in_err-write_name g c = stop _ c.from_residual.ensures.0 c.in_err-write_name.ensures

pub returns-in_err-write_side : goal.returns-in_err-write_side
returns-in_err-write_side g c = then c.in_ok-write_name.ensures (stop _ c.from_residual-in_err-write_side.ensures.0 c.in_err-write_side.ensures)

pub returns : goal.returns
returns g c = then c.in_ok-write_name.ensures (then c.in_ok-write_side.ensures c.write_operand.ensures)
