use Rattle.std.proofs.Common.{ap, sym, ◌∙◌}
use Rattle.il_model.specs.Kinds.{kind_of_name}
use Rattle.il_model.proofs.BlockKinds.{kind_of_name-kind_name}
use Rattle.il_model.proofs.kind.BlockKind.of_name.Goals as goal

pub returns-clause-found : goal.returns-clause-found
returns-clause-found c = λ kind e. c.with_name.ensures.value ∙ ap kind_of_name (sym e) ∙ kind_of_name-kind_name kind
