use Rattle.std.proofs.Common.{rules, true, false, List, ap, sym, subst}
use Rattle.vr_model.specs.declared.message.Message as sent
use Rattle.vr_core.specs.declared.state.Core.{Core}
use Rattle.vr_core.specs.Follows.{FollowsIfKept}
use Rattle.vr_recovery.proofs.Telling.{told_by}
use Rattle.vr_recovery.proofs.Table.{undone}
use Rattle.vr_core.proofs.Keeping.{kept_err}
use Rattle.vr_core.proofs.Unfit.{drops_err}
use Rattle.vr_recovery.proofs.Ending.{rule, drops_response, fresh_lost, takes_response, loses_response}
use Rattle.vr_recovery.proofs.recovering.response_of_other.Goals as goal

pub returns-then-not-recovers_with-clause-rule : goal.returns-then-not-recovers_with-clause-rule
returns-then-not-recovers_with-clause-rule c = λ a its.
    let core = c.args.core.now in
    subst (λ (ms : List sent.Message). FollowsIfKept core (rule core c.args.sender c.args.nonce a) core ms) (sym c.new.ensures.items)
    (drops_response core c.args.sender c.args.nonce a (told_by core _ _ false c.recovers_with.ensures.told (search rules)))

pub returns-in_err-response_fits-clause-rule : goal.returns-in_err-response_fits-clause-rule
returns-in_err-response_fits-clause-rule c = λ a its.
    let core = c.args.core.now in
    let asked = told_by core _ _ true c.recovers_with.ensures.told (search rules) in
    kept_err core (rule core c.args.sender c.args.nonce a) core c.from_residual.result c.from_residual.ensures.0
    (fresh_lost core c.args.sender c.args.nonce a asked (c.recovers_with.ensures.status (search rules)) c.requires c.args.response its c.in_err-response_fits.ensures.err)

pub returns-then-not-branch-clause-rule : goal.returns-then-not-branch-clause-rule
returns-then-not-branch-clause-rule c = λ a its. absurd (c.in_ok-response_fits.ensures.fits (search rules) a its)

pub returns-in-Ok-clause-rule : goal.returns-in-Ok-clause-rule
returns-in-Ok-clause-rule c = λ a its.
    let core = c.args.core.now in
    let mid = c.keep-before.new.core in
    let asked = told_by core _ _ true c.recovers_with.ensures.told (search rules) in
    subst (λ (ms : List sent.Message). FollowsIfKept core (rule core c.args.sender c.args.nonce a) c.recover_if_told.new.core ms) (sym c.new-in-Ok.ensures.items)
    (takes_response core c.args.sender c.args.nonce a asked c.args.response its mid c.keep-before.ensures.kept c.recover_if_told.new.core (ap (λ (x : Core). x.stored_view) c.keep-before.ensures.others) c.in-Ok.ensures.ok)

pub returns-in-Err-clause-rule : goal.returns-in-Err-clause-rule
returns-in-Err-clause-rule c = λ a its.
    let core = c.args.core.now in
    let mid = c.keep-before.new.core in
    let asked = told_by core _ _ true c.recovers_with.ensures.told (search rules) in
    loses_response core c.args.sender c.args.nonce a asked c.args.response its mid c.keep-before.ensures.kept c.put_back.new.core (c.recovers_with.ensures.status (search rules)) c.in-Err.ensures.lost
    (undone core mid c.recover_if_told.new.core c.put_back.new.core c.args.sender c.keep-before.result c.keep-before.ensures.others c.keep-before.ensures.back c.in-Err.ensures.err c.put_back.ensures.others c.put_back.ensures.after)

pub returns-in_err-response_fits-clause-dropped : goal.returns-in_err-response_fits-clause-dropped
returns-in_err-response_fits-clause-dropped c = λ unfit. drops_err c.args.core.now c.from_residual.result c.from_residual.ensures.0

pub returns-in-Ok-clause-dropped : goal.returns-in-Ok-clause-dropped
returns-in-Ok-clause-dropped c = λ unfit. absurd (c.in_ok-response_fits.ensures.unfit (search rules) unfit)

pub returns-in-Err-clause-dropped : goal.returns-in-Err-clause-dropped
returns-in-Err-clause-dropped c = λ unfit. absurd (c.in_ok-response_fits.ensures.unfit (search rules) unfit)
