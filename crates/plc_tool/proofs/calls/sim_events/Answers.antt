use Rattle.plc_tool.proofs.Endings.{by_end, told_at_1, unwritten, refused, stops_late, why_stopped, where_ok}
use Rattle.plc_tool.proofs.Inputs.{of_schedule}
use Rattle.plc_tool.specs.Simulated.{IsToldOf}
use Rattle.plc_tool.proofs.calls.sim_events.Goals as goal

pub returns-clause-told : goal.returns-clause-told
returns-clause-told g c =
    by_end g.E.CountedWrite (IsToldOf c.args.source.now c.args.group.now.config.f c.args.group.now.budget.instructions c.args.named.now) _ _ _ _ _ _ (why_stopped _ _) _ c.put_report.ensures.err c.ended.ensures.ends

pub returns-clause-refused : goal.returns-clause-refused
returns-clause-refused g c = λ one. (
  refused (IsToldOf c.args.source.now c.args.group.now.config.f c.args.group.now.budget.instructions c.args.named.now) (told_at_1 g.E.CountedWrite _ _ _ _ (returns-clause-told g c) one),
  unwritten _ _ _ _ (why_stopped _ _) _ _ one c.ended.ensures.done c.ended.ensures.told c.put_report.ensures.err,
)

pub returns-clause-cut : goal.returns-clause-cut
returns-clause-cut g c = λ two.
    stops_late g.E.CountedWrite _ _ (IsToldOf c.args.source.now c.args.group.now.config.f c.args.group.now.budget.instructions c.args.named.now) _ _ _ _ _ _
    (of_schedule c.args.source.now c.args.group.now.config.f c.args.group.now.budget.instructions c.args.named.now) two c.put_report.ensures.err c.ended.ensures.ends

pub returns-clause-replicated : goal.returns-clause-replicated
returns-clause-replicated g c = λ done. where_ok c.put_report.result _ (c.ended.ensures.good done) c.put_report.ensures.replicated
