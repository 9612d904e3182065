use Rattle.field_cycle.specs.Stations.{HasSameOutputs}
use Rattle.field_cycle.proofs.cycle.Cycle.act.Given as goal

abbrev pub invariant-loop-place : goal.invariant-loop-place
invariant-loop-place l = HasSameOutputs l.fn.self.controller l.self.controller
