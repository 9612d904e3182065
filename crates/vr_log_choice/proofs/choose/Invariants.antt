use Rattle.vr_log_choice.proofs.Best.{IsBestBelow}
use Rattle.vr_log_choice.proofs.choose.Given as goal

abbrev pub invariant-loop-i : goal.invariant-loop-i
invariant-loop-i l = IsBestBelow l.members l.i l.best
