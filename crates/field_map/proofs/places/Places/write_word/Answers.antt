use Rattle.std.proofs.Common.{ap, ◌∙◌, rules, SFits, ℤ, false}
use Rattle.std.specs.Int.{w16}
use Rattle.std.proofs.lemmas.Int.{to_z-of_z}
use Rattle.il_model.specs.declared.cells.Cells.{Cells}
use Rattle.field_map.specs.Asking.{write_request, all_of}
use Rattle.field_map.proofs.places.Places.write_word.Goals as goal

pub returns-clause-is : goal.returns-clause-is
returns-clause-is c =
    let fits : SFits w16 c.args.value = search rules in
    c.write.ensures.is
    ∙ ap (λ (cells : Cells). write_request c.args.self.now.from c.args.self.now cells)
    (c.all.ensures ∙ ap (λ (word : ℤ). all_of false word) (to_z-of_z w16 c.args.value fits))
