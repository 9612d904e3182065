use Rattle.std.proofs.Common.{◌∙◌}
use Rattle.ctl_machine.proofs.Warming.{is_warm}
use Rattle.ctl_machine.proofs.state.MachineState.warm.Goals as goal

pub returns : goal.returns
returns c =
    c.rest.ensures
    ∙ is_warm c.args.image.now c.args.self.now _ c.variables-variables.result.now c.instances.result.now c.begin_values.new.own.items c.begin_instances.new.instances.items c.warm_cells-self-inside.result c.warm_cells-self-inside-2.result c.warm_cells-self-inside-3.result
    c.self.view_is c.variables-variables.ensures c.instances.ensures c.begin_values.ensures c.begin_instances.ensures c.warm_cells-self-inside.ensures c.warm_cells-self-inside-2.ensures c.warm_cells-self-inside-3.ensures
