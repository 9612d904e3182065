use Rattle.std.proofs.Common.{sym, subst}
use Rattle.ctl_model.specs.declared.phase.Phase.{Phase}
use Rattle.ctl_debugger.specs.Owned.{IsOpen}
use Rattle.ctl_debugger.proofs.Opened.{run_opens}
use Rattle.ctl_debugger.proofs.controller.Controller.scan.Goals as goal

pub invariant_of-self : goal.invariant_of-self
invariant_of-self c =
    let begun = c.begin.ensures.kept c.self.inside.image c.self.invariant.cycle in
    let opened = run_opens c.self.inside.image c.self.inside.breaks c.self.inside.budget.instructions c.begin.new.self.cycle c.run_to-out.new.self.cycle c.run_to-out.result c.know_lawful.ensures.typed begun.suits c.run_to-out.ensures.run in
    record {
      cycle = c.run_to-out.ensures.kept;
      breaks = c.self.invariant.breaks;
      performed = c.run_to-out.ensures.performed;
      scan = subst (λ (p : Phase). IsOpen c.self.inside.image p c.run_to-out.new.self.cycle) (sym c.tell.ensures.phase) opened;
    }
