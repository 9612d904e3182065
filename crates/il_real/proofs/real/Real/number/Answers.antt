use Rattle.std.proofs.Common.{subst, sym, T}
use Rattle.std.specs.Prelude.{not}
use lib.Ieee.{binary32}
use lib.Ieee.Bits.{nan_bits_is}
use Rattle.il_real.proofs.Values.{value_not_nan, pattern_value}
use Rattle.il_real.specs.Numbers.{number_with}
use Rattle.il_real.proofs.real.Real.number.Goals as goal

pub float_from_bits-result : goal.float_from_bits-result
float_from_bits-result c = subst (λ b. T (not b)) (sym (nan_bits_is binary32 c.args.self.pattern))
    (value_not_nan (number_with c.args.self.pattern) (pattern_value c.args.self.pattern c.args.self.lawful))
