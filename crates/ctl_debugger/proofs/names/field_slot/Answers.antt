use Rattle.std.proofs.Common.{sym, ◌∙◌}
use Rattle.ctl_debugger.proofs.Found.{no_instance, of_instance}
use Rattle.ctl_debugger.proofs.names.field_slot.Goals as goal

pub returns-in_err-i : goal.returns-in_err-i
returns-in_err-i c = c.from_residual.ensures ∙ sym (no_instance c.args.image.now c.instances-instances.result.now c.args.name.now c.args.field.now c.instances-instances.ensures c.in_err-i.ensures.value)

pub returns : goal.returns
returns c = c.instance_slot.ensures ∙ sym (of_instance c.args.image.now c.instances-instances.result.now c.args.name.now c.args.field.now c.in_ok-i.i c.index-instances-i.result c.instances-instances.ensures c.in_ok-i.ensures.value c.in_ok-i.ensures.bound c.index-instances-i.is)
