use Rattle.vr_judging.proofs.Counting.{IsTried}
use Rattle.vr_judging.proofs.majority.reached.Given as goal

abbrev pub invariant-loop-s : goal.invariant-loop-s
invariant-loop-s l = IsTried l.config.f l.number l.acknowledged l.op_number l.s l.reached
