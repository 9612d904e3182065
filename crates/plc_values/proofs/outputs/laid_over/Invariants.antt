use Rattle.std.proofs.Common.{◌≡◌, length, fold}
use Rattle.plc_values.specs.Values.{laid}
use Rattle.plc_values.proofs.outputs.laid_over.Given as goal

abbrev pub invariant-loop-rest : goal.invariant-loop-rest
invariant-loop-rest l = fold laid l.cells l.rest ≡ fold laid l.fn.cells l.forces

abbrev pub decreases-loop-rest : goal.decreases-loop-rest
decreases-loop-rest l = length l.rest
