use Rattle.std.proofs.Common.{ap, sym, ◌∙◌}
use Rattle.il_model.specs.Kinds.{kind_of_code}
use Rattle.il_model.proofs.BlockKinds.{kind_of_code-kind_code}
use Rattle.il_model.proofs.kind.BlockKind.of_code.Goals as goal

pub returns-clause-found : goal.returns-clause-found
returns-clause-found c = λ kind e. c.with_code.ensures.value ∙ ap kind_of_code (sym e) ∙ kind_of_code-kind_code kind
