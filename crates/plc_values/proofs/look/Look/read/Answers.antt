use Rattle.std.proofs.Common.{ap, ◌∙◌}
use Rattle.ctl_debugger.specs.Owned.{Owned}
use Rattle.plc_values.specs.Values.{read_in}
use Rattle.plc_values.proofs.look.Look.read.Goals as goal

pub returns-clause-value : goal.returns-clause-value
returns-clause-value c = c.read.ensures.value ∙ ap (λ (o : Owned). read_in o c.args.slot.0) c.self.view_is
