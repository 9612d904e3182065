use Rattle.std.proofs.Common.{ℕ, List, Option, sym, ap, ◌∙◌}
use Rattle.std.specs.Prelude.{slice_get}
use Rattle.std.specs.Option.{option_and_then}
use Rattle.il_model.specs.Resolved.{target_of}
use Rattle.il_model.specs.Image.{number_or_unused, operand_code}
use Rattle.il_assembler.proofs.Addresses.{target_stands}
use Rattle.il_assembler.proofs.encode.operand_code.Goals as goal

pub returns-in-Label : goal.returns-in-Label
returns-in-Label c =
    c.target_address.ensures
    ∙ ap (λ (o : Option ℕ). number_or_unused (option_and_then (slice_get c.args.addresses.now) o)) c.target_of.ensures
    ∙ ap (λ (xs : List ℕ). number_or_unused (option_and_then (slice_get xs) (target_of c.args.program.now c.in-Label.name))) c.requires
    ∙ ap number_or_unused (target_stands c.args.program.now c.in-Label.name)
    ∙ sym (ap (operand_code c.args.program.now c.args.constants.now) c.in-Label.is)
