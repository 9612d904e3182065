use Rattle.std.proofs.Common.{inr, refl, subst}
use Rattle.std.proofs.lemmas.Result.{err_from_is_err_and}
use Rattle.ctl_debugger.specs.Outcome.{answers_of}
use Rattle.vr_schedules.specs.Traces.{IsTraced}
use Rattle.vr_world.specs.History.{IsOneHistory}
use Rattle.vr_core.specs.StandsFor.{group_of, IsSavedAs}
use Rattle.plc_tool.proofs.Endings.{of_its_text}
use Rattle.plc_tool.proofs.Reported.{is_simulated, is_replicated, is_cut_short}
use Rattle.plc_tool.proofs.simulating.put_report.Goals as goal

pub returns-clause-simulated : goal.returns-clause-simulated
returns-clause-simulated g c =
    is_simulated g.W.CountedWrite c.in_ok-trace.trace c.args.out.now c.put_trace.new.out c.args.text.now c.args.group.now.budget.instructions c.in_ok-image.image c.args.named.now c.in_ok-events.events.items
    c.in_ok-image.ensures.found c.in_ok-events.ensures.known c.know_reading.ensures.reads
    (subst (λ events. IsOneHistory (answers_of c.in_ok-image.image c.args.group.now.budget.instructions) events c.in_ok-trace.trace) c.as_slice.ensures.value c.in_ok-trace.ensures.history)
    c.put_trace.result c.put_trace.ensures

pub returns-clause-replicated : goal.returns-clause-replicated
returns-clause-replicated g c =
    is_replicated g.W.CountedWrite c.in_ok-trace.trace c.args.out.now c.put_trace.new.out c.args.text.now c.args.group.now.config.f c.args.group.now.budget.instructions c.in_ok-image.image c.args.named.now c.in_ok-events.events.items
    c.in_ok-image.ensures.found c.in_ok-events.ensures.known c.know_reading.ensures.reads
    (subst (λ events. IsOneHistory (answers_of c.in_ok-image.image c.args.group.now.budget.instructions) events c.in_ok-trace.trace) c.as_slice.ensures.value c.in_ok-trace.ensures.history)
    (subst (λ events. IsTraced IsSavedAs (group_of c.args.group.now.config.f c.in_ok-image.image c.args.group.now.budget.instructions) events c.in_ok-trace.trace) c.as_slice.ensures.value c.in_ok-trace.ensures.traced)
    c.in_ok-trace.ensures.none_lost c.put_trace.result c.put_trace.ensures

pub returns-clause-err : goal.returns-clause-err
returns-clause-err g c =
    is_cut_short g.W.CountedWrite c.in_ok-trace.trace c.args.out.now c.put_trace.new.out c.args.text.now c.args.group.now.config.f c.args.group.now.budget.instructions c.in_ok-image.image c.args.named.now c.in_ok-events.events.items
    c.in_ok-image.ensures.found c.in_ok-events.ensures.known
    (subst (λ events. IsTraced IsSavedAs (group_of c.args.group.now.config.f c.in_ok-image.image c.args.group.now.budget.instructions) events c.in_ok-trace.trace) c.as_slice.ensures.value c.in_ok-trace.ensures.traced)
    c.in_ok-trace.ensures.none_lost c.put_trace.result c.put_trace.ensures

pub returns-in_err-image-clause-err : goal.returns-in_err-image-clause-err
returns-in_err-image-clause-err g c =
    let p = err_from_is_err_and c.from_residual.result c.from_residual.ensures.1 in
    rw (p.1, p.2) (inr (of_its_text c.args.text.now c.args.group.now.config.f c.args.group.now.budget.instructions c.args.named.now c.in_err-image.field-0.0 c.in_err-image.ensures.refused, refl))
