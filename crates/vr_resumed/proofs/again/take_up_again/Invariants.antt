use Rattle.vr_resumed.specs.Resuming.{TakesUpAgain}
use Rattle.vr_resumed.proofs.again.take_up_again.Given as goal

abbrev pub invariant-loop-event : goal.invariant-loop-event
invariant-loop-event l = TakesUpAgain l.fn.replica l.yielded l.replica
