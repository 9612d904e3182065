use Rattle.std.proofs.Common.{Option, [], ◌++◌, ap, subst, ◌∙◌, arith}
use Rattle.std.specs.List.{flat_map}
use Rattle.vr_wire.specs.Logs.{FitsExecuted, client_bytes, with_answer}
use Rattle.vr_model.specs.declared.log.Executed.{Executed}
use Rattle.vr_wire.proofs.Tables.{written_next, all_next}
use Rattle.vr_wire.proofs.log.put_answers.Goals as goal

pub loop-executed-preserved : goal.loop-executed-preserved
loop-executed-preserved c =
    let i = c.loop-executed.executed-index in
    let x = c.executed-item.result in
    record {
      client = omega (arith, c.loop-executed.invariant.client);
      written = written_next c.args.clients.now i c.loop-executed.client x c.args.out.now.items c.loop-executed.out.items c.put_may_answer.new.out.items c.loop-executed-test.true c.loop-executed.invariant.client c.loop-executed.invariant.written (c.in_ok-put_may_answer.ensures.text ∙ ap (λ (y : Option Executed). c.loop-executed.out.items ++ flat_map client_bytes (with_answer c.loop-executed.client y [])) c.executed-item.is);
      fits = all_next FitsExecuted c.args.clients.now i x c.loop-executed-test.true c.loop-executed.invariant.fits (subst FitsExecuted c.executed-item.is c.in_ok-put_may_answer.ensures.fits);
    }
