use Rattle.std.proofs.Common.{rules}
use Rattle.ctl_debugger.proofs.Answered.{answered}
use Rattle.ctl_debugger.proofs.controller.Controller.apply.Goals as goal

pub returns-clause-runs : goal.returns-clause-runs
returns-clause-runs c = answered _ c.args.self.now c.args.command.now _ c.self.view_is c.know_lawful.ensures.typed c.self.invariant.cycle.suits c.know_whole_inputs.ensures (search rules)
