use Rattle.std.proofs.Common.{◌≡◌, [], ◌∙◌}
use Rattle.il_units.proofs.Labels.{label_alone}
use Rattle.il_units.proofs.bodies.label_before.Goals as goal

pub returns : goal.returns
returns c =
    let none : c.of.result ≡ [] = cc in
    c.in_ok-insert.ensures.items ∙ label_alone c.args.word c.of.result c.args.lines.items none c.requires
