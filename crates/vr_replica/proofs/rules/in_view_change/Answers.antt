use Rattle.std.proofs.Common.{refl, sym, subst}
use Rattle.vr_model.specs.StandsFor.{body_with, Carries}
use Rattle.vr_core.specs.StandsFor.{IsSavedAs, own_group}
use Rattle.vr_core.specs.Follows.{DoesIfKept, receives_from}
use Rattle.vr_replica.specs.Stepped.{IsUnfitBody}
use Rattle.vr_replica.proofs.rules.in_view_change.Goals as goal

pub returns-in-StartViewChange-clause-rule : goal.returns-in-StartViewChange-clause-rule
returns-in-StartViewChange-clause-rule c = λ l carries.
    subst (λ b. DoesIfKept c.args.core.now (receives_from c.args.sender (body_with l b)) c.on_start_view_change.new.core c.on_start_view_change.result)
    (sym c.in-StartViewChange.is) c.on_start_view_change.ensures

pub returns-in-DoViewChange-clause-rule : goal.returns-in-DoViewChange-clause-rule
returns-in-DoViewChange-clause-rule c = λ l carries.
    let core = c.args.core.now in
    subst (λ b. DoesIfKept core (receives_from c.args.sender (body_with l b)) c.on_do_view_change.new.core c.on_do_view_change.result) (sym c.in-DoViewChange.is)
    (c.on_do_view_change.ensures.rule _ (record { log = l; carries = subst (λ b. Carries IsSavedAs (own_group core) b l) c.in-DoViewChange.is carries; is = refl }))

pub returns-in-StartView-clause-rule : goal.returns-in-StartView-clause-rule
returns-in-StartView-clause-rule c = λ l carries.
    let core = c.args.core.now in
    subst (λ b. DoesIfKept core (receives_from c.args.sender (body_with l b)) c.on_start_view.new.core c.on_start_view.result) (sym c.in-StartView.is)
    (c.on_start_view.ensures.rule l (subst (λ b. Carries IsSavedAs (own_group core) b l) c.in-StartView.is carries))

pub returns-in-StartViewChange-clause-dropped : goal.returns-in-StartViewChange-clause-dropped
returns-in-StartViewChange-clause-dropped c = λ unfit. absurd (subst (IsUnfitBody c.args.core.now c.args.sender) c.in-StartViewChange.is unfit)

pub returns-in-DoViewChange-clause-dropped : goal.returns-in-DoViewChange-clause-dropped
returns-in-DoViewChange-clause-dropped c = λ unfit. c.on_do_view_change.ensures.dropped (subst (IsUnfitBody c.args.core.now c.args.sender) c.in-DoViewChange.is unfit)

pub returns-in-StartView-clause-dropped : goal.returns-in-StartView-clause-dropped
returns-in-StartView-clause-dropped c = λ unfit. c.on_start_view.ensures.dropped (subst (IsUnfitBody c.args.core.now c.args.sender) c.in-StartView.is unfit)
