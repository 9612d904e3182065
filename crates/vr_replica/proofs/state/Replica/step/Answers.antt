use Rattle.std.proofs.Common.{◌∙◌, sym}
use Rattle.vr_replica.proofs.state.Replica.step.Goals as goal

pub returns-then-is_down-clause-row : goal.returns-then-is_down-clause-row
returns-then-is_down-clause-row g c = λ m r st. c.wake.ensures.row m r st (sym (c.is_down.ensures.told m r st) ∙ c.if-is_down.true)

pub returns-else-is_down-clause-row : goal.returns-else-is_down-clause-row
returns-else-is_down-clause-row g c = λ m r st. c.act.ensures.row m r st (sym (c.is_down.ensures.told m r st) ∙ c.if-is_down.false)
