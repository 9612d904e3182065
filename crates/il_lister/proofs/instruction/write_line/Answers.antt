use Rattle.il_lister.proofs.Parts.{stop, then}
use Rattle.il_lister.proofs.instruction.write_line.Goals as goal

pub returns-in_err-write_label : goal.returns-in_err-write_label
returns-in_err-write_label g c = stop _ c.from_residual.ensures.0 c.in_err-write_label.ensures

pub returns-in_err-write_operation : goal.returns-in_err-write_operation
returns-in_err-write_operation g c = then c.in_ok-write_label.ensures (stop _ c.from_residual-in_err-write_operation.ensures.0 c.in_err-write_operation.ensures)

pub returns : goal.returns
returns g c = then c.in_ok-write_label.ensures (then c.in_ok-write_operation.ensures c.write_text.ensures)
