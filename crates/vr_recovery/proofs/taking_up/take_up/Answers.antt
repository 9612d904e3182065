use Rattle.vr_core.proofs.ReadyFor.{readied_some, readied_sound}
use Rattle.vr_core.proofs.Unfit.{never_unfit, drops_err}
use Rattle.vr_recovery.proofs.CatchingUp.{takes_up_so}
use Rattle.vr_recovery.proofs.taking_up.take_up.Goals as goal

pub returns-clause-ok : goal.returns-clause-ok
returns-clause-ok c = λ l its.
    takes_up_so c.args.core.now c.replace_log.new.self c.hold.new.core c.args.log c.args.commit_number c.in-Some.ready.changes c.hold.result.items l its (c.replace_log.ensures.replaces c.args.commit_number) (readied_some c.args.core.now c.args.log c.args.commit_number c.in_ok-ready.field-0 c.in-Some.ready c.in-Some.is c.in_ok-ready.ensures.readied).changes c.hold.ensures

pub returns-clause-dropped : goal.returns-clause-dropped
returns-clause-dropped c = λ unfit. absurd (never_unfit c.args.core.now c.args.commit_number c.args.log c.requires (readied_sound c.args.core.now c.args.log c.in_ok-ready.field-0 c.in-Some.ready c.in-Some.is c.in_ok-ready.ensures.spoilt) unfit)

pub returns-in_err-ready-clause-dropped : goal.returns-in_err-ready-clause-dropped
returns-in_err-ready-clause-dropped c = λ unfit. drops_err c.args.core.now c.from_residual.result c.from_residual.ensures.0

pub returns-in_err-sends-clause-dropped : goal.returns-in_err-sends-clause-dropped
returns-in_err-sends-clause-dropped c = λ unfit. drops_err c.args.core.now c.from_residual-in_err-sends.result c.from_residual-in_err-sends.ensures.0
