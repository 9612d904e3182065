use Rattle.std.proofs.Common.{rules, refl, subst, is_some}
use Rattle.vr_core.specs.Follows.{Tells}
use Rattle.vr_model.specs.Rules.{keeps_do_view_change}
use Rattle.vr_core.proofs.Keeping.{kept_err}
use Rattle.vr_core.proofs.Unfit.{drops_err}
use Rattle.vr_viewchange.proofs.Sending.{keep_fails}
use Rattle.vr_viewchange.proofs.keeping.keep_handed.Goals as goal

pub returns-in_err-can_stand-clause-rule : goal.returns-in_err-can_stand-clause-rule
returns-in_err-can_stand-clause-rule c = λ a its.
    let core = c.args.core.now in
    let d = c.args.do_view_change in
    let first = subst (λ x. Tells core (λ w r. is_some (r.do_view_changes d.replica)) x) c.if-is_kept.false c.is_kept.ensures.told in
    kept_err core (λ w r. keeps_do_view_change w.f w.number w.answer d.replica a r) core c.from_residual.result c.from_residual.ensures.0
    (keep_fails core d a core.do_view_changes first refl)

pub returns-in_err-can_stand-clause-dropped : goal.returns-in_err-can_stand-clause-dropped
returns-in_err-can_stand-clause-dropped c = λ unfit. drops_err c.args.core.now c.from_residual.result c.from_residual.ensures.0

pub returns-clause-dropped : goal.returns-clause-dropped
returns-clause-dropped c = λ unfit. absurd (c.in_ok-can_stand.ensures.fit (search rules) unfit)
