use Rattle.std.proofs.Common.{sym, subst}
use Rattle.il_model.specs.declared.command.Command.{Command}
use Rattle.il_model.specs.declared.command.Answer.{Answer}
use Rattle.vr_model.specs.Messages.{Message}
use Rattle.vr_model.specs.Rules as rules
use Rattle.vr_replica.specs.Ruled.{DoesFrom, Ruled}
use Rattle.vr_replica.specs.Stepped.{IsUnfitEvent}
use Rattle.vr_replica.proofs.rules.by_rule.Goals as goal

pub returns-in-Message-clause-rule : goal.returns-in-Message-clause-rule
returns-in-Message-clause-rule c =
    let core = c.args.core.now in
    let new = c.receive.new.core in
    let result = c.receive.result in
    subst (λ e. Ruled core e new result) (sym c.in-Message.is) (λ meant stands.
    subst (λ (x : Message Command Answer). DoesFrom core c.in-Message.message.body (λ w r. rules.receives w.f w.number w.answer r x.from x.body) new result) (sym stands.is) (c.receive.ensures.rule stands.log stands.carries))

pub returns-in-Message-clause-dropped : goal.returns-in-Message-clause-dropped
returns-in-Message-clause-dropped c = λ unfit. c.receive.ensures.dropped (subst (IsUnfitEvent c.args.core.now) c.in-Message.is unfit)

pub returns-in-Timeout-clause-dropped : goal.returns-in-Timeout-clause-dropped
returns-in-Timeout-clause-dropped c = λ unfit. absurd (subst (IsUnfitEvent c.args.core.now) c.in-Timeout.is unfit)

pub returns-in-Resend-clause-dropped : goal.returns-in-Resend-clause-dropped
returns-in-Resend-clause-dropped c = λ unfit. absurd (subst (IsUnfitEvent c.args.core.now) c.in-Resend.is unfit)

pub returns-in-Restart-clause-dropped : goal.returns-in-Restart-clause-dropped
returns-in-Restart-clause-dropped c = λ unfit. absurd (subst (IsUnfitEvent c.args.core.now) c.in-Restart.is unfit)
