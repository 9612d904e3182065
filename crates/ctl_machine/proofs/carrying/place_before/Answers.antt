use Rattle.std.proofs.Common.{ap, ◌∙◌, List}
use Rattle.il_model.specs.declared.program.Variable.{Variable}
use Rattle.ctl_model.specs.Changes.{goes_on, placed_by}
use Rattle.ctl_model.proofs.Carrying.{variable_placed}
use Rattle.ctl_machine.proofs.carrying.place_before.Goals as goal

pub returns : goal.returns
returns c =
    let xs = c.args.image.now.variables in
    c.if_goes_on.ensures
    ∙ ap (λ (ys : List Variable). placed_by (λ x. goes_on x c.args.new.now) ys c.variable_named-number.result) c.variables.ensures
    ∙ ap (placed_by (λ x. goes_on x c.args.new.now) xs) c.variable_named-number.ensures
    ∙ variable_placed xs c.args.new.now c.know_lawful.ensures.text.variables
