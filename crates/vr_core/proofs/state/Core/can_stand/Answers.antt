use Rattle.std.proofs.Common.{◌≡◌, true, rules}
use Rattle.vr_core.proofs.Unfit.{fit_if}
use Rattle.vr_core.proofs.state.Core.can_stand.Goals as goal

pub returns-clause-fit : goal.returns-clause-fit
returns-clause-fit c = fit_if c.args.self.now c.args.commit_number c.args.log.now c.fits.result (c.is_reached.ensures.reached (search rules)) c.fits.ensures.spoilt
