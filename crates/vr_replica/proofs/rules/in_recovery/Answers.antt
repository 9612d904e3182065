use Rattle.std.proofs.Common.{refl, sym, subst}
use Rattle.vr_model.specs.declared.message.Body.TheVariants as says
use Rattle.vr_model.specs.StandsFor.{body_with, Carries}
use Rattle.vr_core.specs.StandsFor.{IsSavedAs, own_group}
use Rattle.vr_core.specs.Follows.{receives_from}
use Rattle.vr_replica.specs.Ruled.{DoesFrom}
use Rattle.vr_replica.proofs.Dispatched.{asking_keeps, sender_sends_none}
use Rattle.vr_replica.proofs.Sending.{from_does, from_kept, from_fits, from_own}
use Rattle.vr_replica.specs.Stepped.{IsUnfitBody}
use Rattle.vr_replica.proofs.rules.in_recovery.Goals as goal

pub returns-in-Recovery-clause-rule : goal.returns-in-Recovery-clause-rule
returns-in-Recovery-clause-rule c = λ l carries.
    let core = c.args.core.now in
    let s = c.args.sender in
    subst (λ b. DoesFrom core b (receives_from s (body_with l b)) c.on_recovery.new.core c.on_recovery.result) (sym c.in-Recovery.is)
    (from_does core _ _ c.on_recovery.new.core (λ w r. sender_sends_none w r s (body_with l (says.Recovery c.in-Recovery.nonce c.in-Recovery.stored_view)) tt) c.on_recovery.result c.on_recovery.ensures)

pub returns-in-RecoveryResponse-clause-rule : goal.returns-in-RecoveryResponse-clause-rule
returns-in-RecoveryResponse-clause-rule c = λ l carries.
    let core = c.args.core.now in
    let s = c.args.sender in
    subst (λ b. DoesFrom core b (receives_from s (body_with l b)) c.on_recovery_response.new.core c.on_recovery_response.result) (sym c.in-RecoveryResponse.is)
    (from_kept core _ _ c.on_recovery_response.new.core (λ w r. sender_sends_none w r s (body_with l (says.RecoveryResponse c.in-RecoveryResponse.view c.in-RecoveryResponse.nonce c.in-RecoveryResponse.state)) tt) c.on_recovery_response.result
    (c.on_recovery_response.ensures.rule _ (record { log = l; carries = subst (λ b. Carries IsSavedAs (own_group core) b l) c.in-RecoveryResponse.is carries; is = refl })))

pub returns-in-GetState-clause-rule : goal.returns-in-GetState-clause-rule
returns-in-GetState-clause-rule c = λ l carries.
    let core = c.args.core.now in
    let s = c.args.sender in
    subst (λ b. DoesFrom core b (receives_from s (body_with l b)) core c.on_get_state.result) (sym c.in-GetState.is)
    (from_own core _ _ c.on_get_state.result c.on_get_state.ensures.does c.on_get_state.ensures.own (λ w r. asking_keeps w r s _ _))

pub returns-in-NewState-clause-rule : goal.returns-in-NewState-clause-rule
returns-in-NewState-clause-rule c = λ l carries.
    let core = c.args.core.now in
    let s = c.args.sender in
    subst (λ b. DoesFrom core b (receives_from s (body_with l b)) c.on_new_state.new.core c.on_new_state.result) (sym c.in-NewState.is)
    (from_fits core _ _ c.on_new_state.new.core (λ w r. sender_sends_none w r s (body_with l (says.NewState c.in-NewState.view c.in-NewState.op_number c.in-NewState.commit_number c.in-NewState.log)) tt) c.on_new_state.result
    (c.on_new_state.ensures.rule l (subst (λ b. Carries IsSavedAs (own_group core) b l) c.in-NewState.is carries)))

pub returns-in-Recovery-clause-dropped : goal.returns-in-Recovery-clause-dropped
returns-in-Recovery-clause-dropped c = λ unfit. absurd (subst (IsUnfitBody c.args.core.now c.args.sender) c.in-Recovery.is unfit)

pub returns-in-GetState-clause-dropped : goal.returns-in-GetState-clause-dropped
returns-in-GetState-clause-dropped c = λ unfit. absurd (subst (IsUnfitBody c.args.core.now c.args.sender) c.in-GetState.is unfit)

pub returns-in-RecoveryResponse-clause-dropped : goal.returns-in-RecoveryResponse-clause-dropped
returns-in-RecoveryResponse-clause-dropped c = λ unfit. c.on_recovery_response.ensures.dropped (subst (IsUnfitBody c.args.core.now c.args.sender) c.in-RecoveryResponse.is unfit)

pub returns-in-NewState-clause-dropped : goal.returns-in-NewState-clause-dropped
returns-in-NewState-clause-dropped c = λ unfit. c.on_new_state.ensures.dropped (subst (IsUnfitBody c.args.core.now c.args.sender) c.in-NewState.is unfit)
