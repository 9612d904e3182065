use Rattle.il_real.specs.Reals.{zero_is_pattern}
use Rattle.il_real.proofs.real.Real.zero.Goals as goal

pub invariant_of-result : goal.invariant_of-result
invariant_of-result c = record { lawful = zero_is_pattern }
