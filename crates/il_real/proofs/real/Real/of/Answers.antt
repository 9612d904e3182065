use Rattle.std.proofs.Common.{rules, subst, sym, ap, Some, ◌≡◌, ◌∙◌, true, refl}
use Rattle.std.specs.Bool.{passes}
use lib.Ieee.{binary32}
use lib.Ieee.Bits.{of_bits-to_bits, to_bits-lt}
use Rattle.il_real.proofs.Values.{other_value, same_real, real_of_zero, real_of_other, real_of_none, pattern_of}
use Rattle.il_real.specs.Numbers.{is_value}
use Rattle.il_real.specs.Reals.{zero_is_pattern, zero_real}
use Rattle.il_real.proofs.real.Real.of.Goals as goal

pub invariant_of-result : goal.invariant_of-result
invariant_of-result c = record { lawful = zero_is_pattern }

pub invariant_of-result-else-x : goal.invariant_of-result-else-x
invariant_of-result-else-x c =
    let fits = passes _ c.well_formed.0.1 in
    let same = of_bits-to_bits binary32 c.args.x fits in
    record {
      lawful = pattern_of _ (to_bits-lt binary32 c.args.x fits)
          (subst (λ v. is_value v ≡ true) (sym same) (other_value c.args.x (search rules) (search rules)));
    }

pub returns-then-x : goal.returns-then-x
returns-then-x c = ap Some (same_real _ zero_real refl) ∙ sym (real_of_zero c.args.x (search rules) (search rules))

pub returns-else-x : goal.returns-else-x
returns-else-x c = sym (real_of_other c.args.x _ (search rules) (search rules) refl)

pub returns-then-not-is_finite : goal.returns-then-not-is_finite
returns-then-not-is_finite c = sym (real_of_none c.args.x (search rules))
