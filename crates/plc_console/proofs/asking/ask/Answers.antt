use Rattle.std.proofs.Common.{subst}
use Rattle.il_model.specs.declared.command.Command.{Command}
use Rattle.vr_client.specs.Client.{SubmitsCommand}
use Rattle.plc_console.proofs.Waiting.{begins, hears, answers, asks_again, closes, gives_up, on_err}
use Rattle.plc_console.proofs.asking.ask.Goals as goal

pub loop-init : goal.loop-init
loop-init g c = record {
  can_next = tt;
  finite = tt;
  waits = begins _ _ _ _ _ _ (subst (λ (x : Command). SubmitsCommand c.args.client.now x c.in-Some.request c.submit.new.self) c.in-Ok.ensures c.in-Some.ensures.some) c.send.ensures.took c.send.ensures.same;
}

pub returns-in_err-answer-clause-unanswered : goal.returns-in_err-answer-clause-unanswered
returns-in_err-answer-clause-unanswered g c = on_err _ c.from_residual.result (closes _ _ _ _ _ _ _ c.loop.invariant.waits c.in_err-answer.ensures.closed)

pub returns-in-Some-3-clause-answered : goal.returns-in-Some-3-clause-answered
returns-in-Some-3-clause-answered g c = answers _ _ _ _ _ _ _ _ _ c.loop.invariant.waits c.in_ok-answer.ensures.heard cc

pub loop-preserved : goal.loop-preserved
loop-preserved g c = record {
  can_next = tt;
  finite = tt;
  waits = asks_again _ _ _ _ _ _ _ (hears _ _ _ _ _ _ _ _ c.loop.invariant.waits c.in_ok-answer.ensures.heard cc) c.ask_again.ensures.sent.1 c.ask_again.ensures.sent.2 c.ask_again.ensures.same;
}

pub returns-then-is_at_its_end-clause-unanswered : goal.returns-then-is_at_its_end-clause-unanswered
returns-then-is_at_its_end-clause-unanswered g c = gives_up _ _ _ _ _ _ (hears _ _ _ _ _ _ _ _ c.loop.invariant.waits c.in_ok-answer.ensures.heard cc) c.give_up.ensures
