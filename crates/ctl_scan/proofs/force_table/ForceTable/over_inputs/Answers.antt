use Rattle.std.proofs.Common.{ap, ◌∙◌}
use Rattle.ctl_model.specs.declared.forces.Forces.{Forces}
use Rattle.ctl_model.specs.Forces.{with_forces}
use Rattle.ctl_scan.proofs.Unforced.{inputs_same}
use Rattle.ctl_scan.proofs.force_table.ForceTable.over_inputs.Goals as goal

pub returns-else-self : goal.returns-else-self
returns-else-self c = inputs_same c.self.inside.may_force c.self.inside.forces c.args.cells.now c.self.invariant c.if-self.false ∙ ap (λ (f : Forces). with_forces f.input c.args.cells.now) c.self.view_is
