use Rattle.il_lister.proofs.Parts.{stop, then}
use Rattle.il_lister.proofs.declaration.write_at.Goals as goal

pub returns-in_err-write_text-in-Some : goal.returns-in_err-write_text-in-Some
returns-in_err-write_text-in-Some g c = rw c.in-Some.is (stop _ c.from_residual.ensures.0 c.in_err-write_text-in-Some.ensures)

pub returns-in_ok-write_text-in-Some : goal.returns-in_ok-write_text-in-Some
returns-in_ok-write_text-in-Some g c = rw c.in-Some.is (then c.in_ok-write_text-in-Some.ensures c.write_location.ensures)
