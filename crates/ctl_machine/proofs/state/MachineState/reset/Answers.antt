use Rattle.std.proofs.Common.{◌∙◌}
use Rattle.ctl_machine.proofs.Reset.{is_cold}
use Rattle.ctl_machine.proofs.state.MachineState.reset.Goals as goal

pub returns : goal.returns
returns c = c.rest.ensures ∙ is_cold c.args.image.now c.variables-variables.result.now c.instances.result.now c.copy_firsts.new.own.items c.clear_instances.new.instances.items c.first_cells-self-inside.result c.first_cells-self-inside-2.result c.first_cells-self-inside-3.result c.variables-variables.ensures c.instances.ensures c.copy_firsts.ensures c.clear_instances.ensures c.first_cells-self-inside.ensures c.first_cells-self-inside-2.ensures c.first_cells-self-inside-3.ensures
