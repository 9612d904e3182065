use Rattle.std.proofs.Common.{◌∙◌, sym}
use Rattle.vr_core.proofs.Readying.{as_change, other_performed}
use Rattle.vr_core.proofs.executing.perform.Goals as goal

pub returns-then-is_change : goal.returns-then-is_change
returns-then-is_change c = λ rest h. c.perform_change.ensures c.args.command.now rest (as_change c.args.command.now rest c.args.changes.now (sym c.is_change.ensures ∙ c.if-is_change.true) h)

pub returns-else-is_change : goal.returns-else-is_change
returns-else-is_change c = λ rest h. other_performed c.args.controller.now c.apply.new.self c.args.command.now rest c.args.changes.now c.apply.result (sym c.is_change.ensures ∙ c.if-is_change.false) c.apply.ensures.outcome h
