use Rattle.std.proofs.Common.{◌≡◌, sym, ap, ◌∙◌, Bool, true, List}
use Rattle.std.specs.Prelude.{not, ◌&&◌, is_some}
use Rattle.std.specs.List.{position}
use Rattle.il_model.specs.Marks.{Mark}
use Rattle.il_model.specs.Words.{is_lawful_name}
use Rattle.il_loader.specs.NameTables.{is_called}
use Rattle.il_loader.proofs.label.Labels.is_new.Goals as goal

pub returns-then-is_lawful_name : goal.returns-then-is_lawful_name
returns-then-is_lawful_name c =
    let lawful : is_lawful_name c.args.name.now ≡ true = sym c.is_lawful_name.ensures ∙ c.if-is_lawful_name.true in
    ap not (c.contains_key.ensures ∙ ap is_some (c.self.invariant.numbers c.args.name.now ∙ ap (λ (seen : List Mark). position (is_called c.args.name.now) seen) c.self.view_is))
    ∙ ap (λ (b : Bool). b && not (is_some (position (is_called c.args.name.now) c.args.self.now))) (sym lawful)
