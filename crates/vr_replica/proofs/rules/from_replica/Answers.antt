use Rattle.std.proofs.Common.{rules, ◌≡◌, ◌∙◌, sym}
use Rattle.vr_model.specs.Protocols.{NormalCase, ViewChange, Recovery, protocol_of}
use Rattle.vr_replica.proofs.Dispatched.{not_of_recovery}
use Rattle.vr_replica.proofs.Unfit.{normal_fits}
use Rattle.vr_replica.proofs.rules.from_replica.Goals as goal

pub returns-in-Request-clause-rule : goal.returns-in-Request-clause-rule
returns-in-Request-clause-rule c = λ l carries.
    let part : protocol_of c.args.body ≡ NormalCase = search rules in
    not_of_recovery c.args.core.now l c.args.sender c.args.body c.in_normal_case.new.core c.in_normal_case.result (λ e. let d : NormalCase ≡ Recovery = sym part ∙ e in cc) (c.in_normal_case.ensures l)

pub returns-in-StartViewChange-clause-rule : goal.returns-in-StartViewChange-clause-rule
returns-in-StartViewChange-clause-rule c = λ l carries.
    let part : protocol_of c.args.body ≡ ViewChange = search rules in
    not_of_recovery c.args.core.now l c.args.sender c.args.body c.in_view_change.new.core c.in_view_change.result (λ e. let d : ViewChange ≡ Recovery = sym part ∙ e in cc) (c.in_view_change.ensures.rule l carries)

pub returns-in-Request-clause-dropped : goal.returns-in-Request-clause-dropped
returns-in-Request-clause-dropped c = λ unfit.
    let part : protocol_of c.args.body ≡ NormalCase = search rules in
    absurd (normal_fits c.args.core.now c.args.sender c.args.body part unfit)
