use Rattle.std.proofs.Common.{sym, ◌∙◌}
use Rattle.ctl_machine.proofs.Shapes.{variables_end}
use Rattle.ctl_machine.proofs.shape.fit_variables.Goals as goal

pub returns : goal.returns
returns c = c.is_empty.ensures ∙ sym (variables_end c.loop-variable.rest.now c.args.variables.now c.loop-variable.variable-index c.loop-variable-test.false) ∙ c.loop-variable.invariant
