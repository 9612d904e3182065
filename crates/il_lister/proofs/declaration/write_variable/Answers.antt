use Rattle.il_lister.proofs.Parts.{stop, then}
use Rattle.il_lister.proofs.declaration.write_variable.Goals as goal

pub returns-in_err-write_name : goal.returns-in_err-write_name
returns-in_err-write_name g c = stop _ c.from_residual.ensures.0 c.in_err-write_name.ensures

pub returns-in_err-write_at : goal.returns-in_err-write_at
returns-in_err-write_at g c = then c.in_ok-write_name.ensures (stop _ c.from_residual-in_err-write_at.ensures.0 c.in_err-write_at.ensures)

pub returns-in_err-write_text : goal.returns-in_err-write_text
returns-in_err-write_text g c = then c.in_ok-write_name.ensures (then c.in_ok-write_at.ensures (stop _ c.from_residual-in_err-write_text.ensures.0 c.in_err-write_text.ensures))

pub returns-in_err-write_type : goal.returns-in_err-write_type
returns-in_err-write_type g c = then c.in_ok-write_name.ensures (then c.in_ok-write_at.ensures (then c.in_ok-write_text.ensures (stop _ c.from_residual-in_err-write_type.ensures.0 c.in_err-write_type.ensures)))

pub returns-in_err-write_initial : goal.returns-in_err-write_initial
returns-in_err-write_initial g c = then c.in_ok-write_name.ensures (then c.in_ok-write_at.ensures (then c.in_ok-write_text.ensures (then c.in_ok-write_type.ensures (stop _ c.from_residual-in_err-write_initial.ensures.0 c.in_err-write_initial.ensures))))

pub returns : goal.returns
returns g c = then c.in_ok-write_name.ensures (then c.in_ok-write_at.ensures (then c.in_ok-write_text.ensures (then c.in_ok-write_type.ensures (then c.in_ok-write_initial.ensures c.write_text-2.ensures))))
