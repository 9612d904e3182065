use Rattle.std.proofs.Common.{◌≡◌, length}
use Rattle.il_model.specs.Words.{is_well_spelled}
use Rattle.il_model.proofs.name.is_well_spelled.Given as goal

abbrev pub invariant-loop-rest : goal.invariant-loop-rest
invariant-loop-rest l = is_well_spelled l.rest ≡ is_well_spelled l.name

abbrev pub decreases-loop-rest : goal.decreases-loop-rest
decreases-loop-rest l = length l.rest
