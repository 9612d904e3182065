use Rattle.std.proofs.Common.{ap, ◌∙◌, of_z, w64}
use Rattle.il_lister.proofs.Cases.{initial_is}
use Rattle.il_lister.proofs.Parts.{stop, then}
use Rattle.il_lister.proofs.declaration.write_initial.Goals as goal

pub returns-in_err-write_text : goal.returns-in_err-write_text
returns-in_err-write_text g c = rw (initial_is c.args.value (λ zero. c.if-number-eq0.false (ap (of_z w64) (c.number.ensures ∙ zero)))) (stop _ c.from_residual.ensures.0 c.in_err-write_text.ensures)

pub returns : goal.returns
returns g c = rw (initial_is c.args.value (λ zero. c.if-number-eq0.false (ap (of_z w64) (c.number.ensures ∙ zero)))) (then c.in_ok-write_text.ensures c.write_literal.ensures)
