use Rattle.std.proofs.Common.{◌≡◌, ◌∙◌, true, false, sym}
use Rattle.vr_recovery.proofs.UnfitResponse.{unfit_of}
use Rattle.vr_recovery.proofs.recovering.response_fits.Goals as goal

pub returns-then-stays_kept-clause-unfit : goal.returns-then-stays_kept-clause-unfit
returns-then-stays_kept-clause-unfit c = λ e unfit. let never : true ≡ false = sym c.if-stays_kept.true ∙ c.stays_kept.ensures ∙ unfit.comes in absurd cc

pub returns-in-Some-clause-unfit : goal.returns-in-Some-clause-unfit
returns-in-Some-clause-unfit c = unfit_of c.args.core.now c.args.sender c.args.response.now c.in-Some.state c.can_stand.result c.in-Some.is c.can_stand.ensures.fit
