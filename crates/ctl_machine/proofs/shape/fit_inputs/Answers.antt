use Rattle.std.proofs.Common.{sym, ◌∙◌}
use Rattle.ctl_machine.proofs.Shapes.{inputs_end}
use Rattle.ctl_machine.proofs.shape.fit_inputs.Goals as goal

pub returns : goal.returns
returns c = c.is_empty.ensures ∙ sym (inputs_end c.loop-field.rest.now c.fields-field-items.result.now c.loop-field.field-index c.loop-field-test.false) ∙ c.loop-field.invariant
