use Rattle.std.proofs.Common.{sym, ◌∙◌}
use Rattle.il_text.proofs.Programs.{plain_program}
use Rattle.il_text.proofs.imaging.program.Goals as goal

pub returns-clause-found : goal.returns-clause-found
returns-clause-found c =
    plain_program c.args.text.now c.in_ok-source.source c.in_ok-resolve.field-0 (sym c.has_units.ensures ∙ c.if-has_units.false) c.in_ok-source.ensures.found c.in_ok-resolve.ensures.found
