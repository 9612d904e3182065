use Rattle.std.proofs.Common.{arith, ap, sym, subst}
use Rattle.ctl_model.specs.Forces.{lift_force}
use Rattle.ctl_model.specs.Scan.{Cycle}
use Rattle.ctl_scan.specs.Kept.{KeptCycle}
use Rattle.ctl_debugger.specs.Owned.{IsOpen}
use Rattle.ctl_debugger.proofs.ForcedOpens.{stays_open}
use Rattle.ctl_debugger.proofs.controller.Controller.unforce_at.Goals as goal

pub invariant_of-self : goal.invariant_of-self
invariant_of-self c =
    let opened = stays_open c.self.inside.image c.self.inside.phase c.self.inside.cycle.cycle (lift_force c.self.inside.cycle.cycle.forces c.args.loc) c.self.invariant.scan in
    record {
      cycle = c.unforce.ensures.kept c.self.inside.image c.self.invariant.cycle;
      breaks = c.self.invariant.breaks;
      performed = omega (arith, c.unforce.ensures.performed, c.self.invariant.performed);
      scan = subst (λ (x : Cycle). IsOpen c.self.inside.image c.self.inside.phase x) (sym (ap (λ (k : KeptCycle). k.cycle) c.unforce.ensures.unforced)) opened;
    }
