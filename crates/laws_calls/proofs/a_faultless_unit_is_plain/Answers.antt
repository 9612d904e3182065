use Rattle.laws_calls.proofs.Faultless.{faultless_plain}
use Rattle.laws_calls.proofs.a_faultless_unit_is_plain.Goals as goal

pub returns : goal.returns
returns c = faultless_plain
