use Rattle.std.proofs.Common.{ap, ◌∙◌}
use Rattle.ctl_model.specs.declared.forces.Forces.{Forces}
use Rattle.ctl_model.specs.Forces.{with_forces}
use Rattle.ctl_scan.proofs.Unforced.{outputs_same}
use Rattle.ctl_scan.proofs.force_table.ForceTable.over_outputs.Goals as goal

pub returns-else-self : goal.returns-else-self
returns-else-self c = outputs_same c.self.inside.may_force c.self.inside.forces c.args.cells.now c.self.invariant c.if-self.false ∙ ap (λ (f : Forces). with_forces f.output c.args.cells.now) c.self.view_is
