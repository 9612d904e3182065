use Rattle.std.proofs.Common.{ap, ◌∙◌, List}
use Rattle.il_model.specs.declared.program.Instance.{Instance}
use Rattle.ctl_model.specs.Changes.{goes_on_as, placed_by}
use Rattle.ctl_model.proofs.Carrying.{instance_placed}
use Rattle.ctl_machine.proofs.carrying.instance_before.Goals as goal

pub returns : goal.returns
returns c =
    let xs = c.args.image.now.instances in
    c.if_goes_on_as.ensures
    ∙ ap (λ (ys : List Instance). placed_by (λ x. goes_on_as x c.args.new.now) ys c.instance_named-number.result) c.instances.ensures
    ∙ ap (placed_by (λ x. goes_on_as x c.args.new.now) xs) c.instance_named-number.ensures
    ∙ instance_placed c.args.image.now.variables xs c.args.new.now c.know_lawful.ensures.text.instances
