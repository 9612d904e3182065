use Rattle.std.proofs.Common.{◌∙◌, arith}
use Rattle.il_lister.proofs.Numbers.{decimal-is}
use Rattle.il_lister.proofs.Parts.{equally}
use Rattle.il_lister.proofs.writing.write_decimal.Goals as goal

pub returns : goal.returns
returns g c = equally (c.as_bytes.ensures.value ∙ c.format.ensures.text ∙ decimal-is c.args.number (omega arith)) c.write_text.ensures
