use Rattle.il_lister.proofs.Parts.{stop, then}
use Rattle.il_lister.proofs.instruction.write_label.Goals as goal

pub returns-in_err-write_name-in-Some : goal.returns-in_err-write_name-in-Some
returns-in_err-write_name-in-Some g c = rw c.in-Some.is (stop _ c.from_residual.ensures.0 c.in_err-write_name-in-Some.ensures)

pub returns-in_ok-write_name-in-Some : goal.returns-in_ok-write_name-in-Some
returns-in_ok-write_name-in-Some g c = rw c.in-Some.is (then c.in_ok-write_name-in-Some.ensures c.write_colon.ensures)
