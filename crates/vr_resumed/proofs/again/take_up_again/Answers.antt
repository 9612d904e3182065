use Rattle.vr_resumed.proofs.TakenUp.{none_so_far, one_more}
use Rattle.vr_resumed.proofs.again.take_up_again.Goals as goal

pub loop-event-init : goal.loop-event-init
loop-event-init c = none_so_far c.args.replica.now

pub loop-event-preserved : goal.loop-event-preserved
loop-event-preserved c = one_more c.args.replica.now c.loop-event.replica c.step.new.replica c.loop-event.yielded c.in-Some.event c.loop-event.invariant c.in_ok-sends.sends.items c.in_ok-sends.ensures.ok
