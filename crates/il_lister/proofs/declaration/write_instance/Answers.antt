use Rattle.il_lister.proofs.Parts.{stop, then}
use Rattle.il_lister.proofs.declaration.write_instance.Goals as goal

pub returns-in_err-write_name : goal.returns-in_err-write_name
returns-in_err-write_name g c = stop _ c.from_residual.ensures.0 c.in_err-write_name.ensures

pub returns-in_err-write_text : goal.returns-in_err-write_text
returns-in_err-write_text g c = then c.in_ok-write_name.ensures (stop _ c.from_residual-in_err-write_text.ensures.0 c.in_err-write_text.ensures)

pub returns-in_err-write_kind : goal.returns-in_err-write_kind
returns-in_err-write_kind g c = then c.in_ok-write_name.ensures (then c.in_ok-write_text.ensures (stop _ c.from_residual-in_err-write_kind.ensures.0 c.in_err-write_kind.ensures))

pub returns : goal.returns
returns g c = then c.in_ok-write_name.ensures (then c.in_ok-write_text.ensures (then c.in_ok-write_kind.ensures c.write_text-2.ensures))
