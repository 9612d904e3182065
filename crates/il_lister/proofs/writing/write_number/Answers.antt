use Rattle.std.proofs.Common.{◌∙◌, ap, rules, SFits, w64}
use Rattle.std.proofs.lemmas.Int.{to_z-of_z}
use Rattle.std.specs.Fmt.{signed_decimal}
use Rattle.il_lister.proofs.Numbers.{number-is}
use Rattle.il_lister.proofs.Parts.{equally}
use Rattle.il_lister.proofs.writing.write_number.Goals as goal

pub returns : goal.returns
returns g c =
    let fits : SFits w64 c.args.number = search rules in
    equally (c.as_bytes.ensures.value ∙ c.format.ensures.text ∙ ap signed_decimal (to_z-of_z w64 c.args.number fits) ∙ number-is c.args.number fits) c.write_text.ensures
