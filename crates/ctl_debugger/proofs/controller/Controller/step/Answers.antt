use Rattle.std.proofs.Common.{sym, subst}
use Rattle.ctl_model.specs.declared.phase.Phase.{Phase}
use Rattle.ctl_debugger.specs.Owned.{IsOpen}
use Rattle.ctl_debugger.proofs.Opened.{step_opens}
use Rattle.ctl_debugger.proofs.controller.Controller.step.Goals as goal

pub invariant_of-self : goal.invariant_of-self
invariant_of-self c =
    let here = subst (λ (p : Phase). IsOpen c.self.inside.image p c.self.inside.cycle.cycle) c.in-Held.is c.self.invariant.scan in
    let opened = step_opens c.self.inside.image c.self.inside.budget.instructions c.self.inside.cycle.cycle c.step-out.new.self.cycle c.step-out.result c.know_lawful.ensures.typed c.self.invariant.cycle.suits here c.step-out.ensures.run in
    record {
      cycle = c.step-out.ensures.kept;
      breaks = c.self.invariant.breaks;
      performed = c.step-out.ensures.performed;
      scan = subst (λ (p : Phase). IsOpen c.self.inside.image p c.step-out.new.self.cycle) (sym c.tell.ensures.phase) opened;
    }
