use Rattle.std.proofs.Common.{ap, ◌∙◌}
use Rattle.il_values.specs.declared.value.Ty.TheVariants as types
use Rattle.il_model.specs.Literals.{typed_literal}
use Rattle.il_model.proofs.HeldNumbers.{word_whole}
use Rattle.il_model.proofs.written.word_literal.Goals as goal

pub returns : goal.returns
returns c = c.typed_literal.ensures ∙ ap (typed_literal types.Word) c.whole.ensures ∙ word_whole c.args.bytes.now
