use Rattle.field_cycle.specs.Rounds.{ArePassed}
use Rattle.field_cycle.proofs.round.ahead.Given as goal

-- each step so far is passed
abbrev pub invariant-loop-step : goal.invariant-loop-step
invariant-loop-step l = ArePassed l.device l.outputs l.from l.step
