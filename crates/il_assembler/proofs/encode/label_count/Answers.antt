use Rattle.std.proofs.Common.{◌∙◌}
use Rattle.il_assembler.proofs.Labels.{labels_counted}
use Rattle.il_assembler.proofs.encode.label_count.Goals as goal

pub returns : goal.returns
returns c = c.labelled_count.ensures ∙ labels_counted 0 c.args.code.now
