use Rattle.std.proofs.Common.{ap, sym, ◌∙◌}
use Rattle.il_model.specs.Snapshots.{SavedController}
use Rattle.ctl_debugger.proofs.Restorable.{no_fit, blocks_judged}
use Rattle.ctl_debugger.proofs.shape.can_restore.Goals as goal

pub returns-then-fits : goal.returns-then-fits
returns-then-fits c =
    blocks_judged c.args.image.now c.args.budget.instructions c.args.snapshot.now c.have_states.result c.as_slice.result.now (c.as_slice.ensures.value ∙ ap (λ (s : SavedController). s.instances) c.snapshot.view_is)
    (sym c.fits.ensures ∙ c.if-fits.true) c.have_states.ensures

pub returns-else-fits : goal.returns-else-fits
returns-else-fits c = no_fit c.args.image.now c.args.budget.instructions c.args.snapshot.now c.fits.result c.if-fits.false c.fits.ensures
