use Rattle.vr_core.proofs.Readying.{change_performed, none_ready}
use Rattle.vr_core.proofs.executing.perform_change.Goals as goal

pub returns : goal.returns
returns c = λ d rest h. change_performed c.args.controller.now c.apply_ready.new.self d rest c.args.changes.now c.next.new.self c.in_ok-ready.ready c.apply_ready.result c.in_ok-ready.ensures c.apply_ready.ensures.outcome h

pub returns-in_err-ready : goal.returns-in_err-ready
returns-in_err-ready c = λ d rest h. absurd (none_ready d rest c.args.changes.now c.in_err-ready.ensures h)
