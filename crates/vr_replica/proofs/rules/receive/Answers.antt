use Rattle.std.proofs.Common.{sym, subst}
use Rattle.vr_model.specs.Rules as rules
use Rattle.vr_model.specs.StandsFor.{body_with, party_of}
use Rattle.vr_replica.specs.Ruled.{DoesFrom}
use Rattle.vr_replica.specs.Stepped.{IsUnfitFrom}
use Rattle.vr_replica.proofs.Dispatched.{of_client}
use Rattle.vr_replica.proofs.rules.receive.Goals as goal

pub returns-in-Client-clause-rule : goal.returns-in-Client-clause-rule
returns-in-Client-clause-rule c = λ l carries.
    let m = c.args.message in
    of_client c.args.core.now m.body m.from c.in-Client.field-0 (body_with l m.body) c.from_client.new.core c.from_client.result c.in-Client.is c.in-Client.field-0.below (c.from_client.ensures l)

pub returns-in-Replica-clause-rule : goal.returns-in-Replica-clause-rule
returns-in-Replica-clause-rule c = λ l carries.
    let m = c.args.message in
    subst (λ p. DoesFrom c.args.core.now m.body (λ w r. rules.receives w.f w.number w.answer r (party_of p) (body_with l m.body)) c.from_replica.new.core c.from_replica.result) (sym c.in-Replica.is)
    (c.from_replica.ensures.rule l carries)

pub returns-in-Client-clause-dropped : goal.returns-in-Client-clause-dropped
returns-in-Client-clause-dropped c = λ unfit. absurd (subst (λ p. IsUnfitFrom c.args.core.now p c.args.message.body) c.in-Client.is unfit)

pub returns-in-Replica-clause-dropped : goal.returns-in-Replica-clause-dropped
returns-in-Replica-clause-dropped c = λ unfit. c.from_replica.ensures.dropped (subst (λ p. IsUnfitFrom c.args.core.now p c.args.message.body) c.in-Replica.is unfit)
