use Rattle.std.proofs.Common.{sym, ◌∙◌}
use Rattle.il_model.specs.declared.snapshot.ForcedSlot.{ForcedSlot}
use Rattle.ctl_model.specs.Snapshots.{fits_force}
use Rattle.ctl_model.proofs.Rising.{forces_fit}
use Rattle.ctl_debugger.proofs.NextForces.{one_further}
use Rattle.ctl_debugger.proofs.shape.fit_forces.Goals as goal

pub loop-forced-init : goal.loop-forced-init
loop-forced-init c = forces_fit c.args.forces.now

pub loop-forced-preserved : goal.loop-forced-preserved
loop-forced-preserved c =
    one_further (λ (f : ForcedSlot). f.slot.0) fits_force c.args.forces.now c.loop-forced.forced-index c.loop-forced.least c.forced-item.result c.loop-forced-test.true c.forced-item.is c.if-forced-least.false
    (sym c.fits_location.ensures ∙ c.if-not-fits_location.false)
    ∙ c.loop-forced.invariant
