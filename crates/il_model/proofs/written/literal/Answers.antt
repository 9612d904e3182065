use Rattle.std.proofs.Common.{◌∙◌}
use Rattle.il_model.proofs.HeldNumbers.{literal_same}
use Rattle.il_model.proofs.written.literal.Goals as goal

pub returns : goal.returns
returns c = c.judged.ensures ∙ literal_same c.args.bytes.now
