use Rattle.std.proofs.Common.{◌+◌, length}
use Rattle.std.proofs.lemmas.List.{take_rest}
use Rattle.il_model.proofs.NameParts.{first_parts}
use Rattle.il_model.proofs.name.first_part.Goals as goal

pub returns-then-before-name-clause-parts : goal.returns-then-before-name-clause-parts
returns-then-before-name-clause-parts c =
    let name = c.args.name.now in
    let n = c.dot-before.result in
    rw (take_rest name (n + 1), c.dot-before.ensures) (first_parts name (rw (← c.dot-before.ensures) c.if-before-name.true))
