use Rattle.std.proofs.Common.{ap, ◌∙◌}
use Rattle.il_model.specs.declared.cells.Cells.{Cells}
use Rattle.field_map.specs.Asking.{write_request}
use Rattle.field_map.proofs.places.Places.write_bit.Goals as goal

pub returns-clause-is : goal.returns-clause-is
returns-clause-is c =
    c.write.ensures.is ∙ ap (λ (cells : Cells). write_request c.args.self.now.from c.args.self.now cells) c.all.ensures
