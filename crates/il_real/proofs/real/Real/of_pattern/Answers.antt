use Rattle.std.proofs.Common.{rules, sym}
use Rattle.std.proofs.lemmas.Float.{not_nan_f32_bits}
use Rattle.il_real.proofs.Values.{with_own_pattern}
use Rattle.il_real.proofs.real.Real.of_pattern.Goals as goal

pub float_from_bits-x : goal.float_from_bits-x
float_from_bits-x c = not_nan_f32_bits _ (search rules)

pub returns-else-is_sign_negative : goal.returns-else-is_sign_negative
returns-else-is_sign_negative c = sym (with_own_pattern _)
