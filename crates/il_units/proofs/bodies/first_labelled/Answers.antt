use Rattle.std.proofs.Common.{arith, ◌∙◌, ◌<◌, length}
use Rattle.il_units.proofs.Labels.{some_line, first_has_label}
use Rattle.il_units.proofs.bodies.first_labelled.Goals as goal

pub remove-line-requires : goal.remove-line-requires
remove-line-requires c = let some : 0 < length c.args.lines.items = some_line c.args.lines.items c.requires in omega (arith, c.args.lines.ok)

pub returns : goal.returns
returns c = c.in_ok-insert.ensures.items ∙ rw (c.remove-line.ensures.items, c.labelled.ensures) (first_has_label c.args.word c.args.lines.items c.remove-line.result c.requires c.remove-line.ensures.value)
