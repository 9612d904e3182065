-- A value is known by its pattern, and which numbers are values.
use Rattle.std.proofs.Common.{rules, ◌≡◌, ℕ, ◌<◌, ◌%◌, ◌^◌, Bool, true, false, refl, ap, sym, ◌∙◌, Option, Some, None, T, lt→ltb}
use Rattle.std.proofs.Common.{unwrap_or}
use Rattle.std.specs.Prelude.{not, ◌&&◌, nat_lt}
use Rattle.std.specs.Float.{Float, binary32, float_is_finite}
use Rattle.std.proofs.lemmas.Bool.{ltb-true}
use mathlib.Core.Bool.{Bool-set}
use lib.Ieee.{eq, to_bits, is_nan, nan, inf, fin}
use lib.Ieee.Bits.{nan_bits_is, nan_bits_above, is_true}
use Rattle.il_real.specs.declared.real.Real.{Real}
use Rattle.il_real.specs.Numbers.{is_value, is_pattern, number_with, zero}
use Rattle.il_real.specs.Reals.{number, judged, with_pattern, zero_real, real_of}

-- ---- patterns

both_true : (a b : Bool) → a ≡ true → b ≡ true → (a && b) ≡ true
both_true a b e f = rw (e, f) refl

second_true : (a b : Bool) → (a && b) ≡ true → b ≡ true
second_true true b e = e
second_true false b e = absurd (cc e)

second_false : (a b : Bool) → b ≡ false → (a && b) ≡ false
second_false true b f = f
second_false false b f = refl

pub pattern_of : (p : ℕ) → p < 2 ^ 32 → is_value (number_with p) ≡ true → is_pattern p ≡ true
pattern_of p small e = both_true (nat_lt p (2 ^ 32)) (is_value (number_with p)) (is_true _ (lt→ltb _ _ small)) e

pub pattern_value : (p : ℕ) → is_pattern p ≡ true → is_value (number_with p) ≡ true
pattern_value p e = second_true (nat_lt p (2 ^ 32)) (is_value (number_with p)) e

same_judged : (r : Real) (b : Bool) (e : is_pattern r.pattern ≡ b) → judged r.pattern b e ≡ Some r
same_judged r true e =
    ap (λ (h : is_pattern r.pattern ≡ true). Some (record { pattern = r.pattern; lawful = h }))
    (Bool-set (is_pattern r.pattern) true e r.lawful)
same_judged r false e = absurd (cc (e, r.lawful))

pub with_own_pattern : (r : Real) → with_pattern r.pattern ≡ Some r
unfolding with_pattern
with_own_pattern r = same_judged r (is_pattern r.pattern) refl

-- equal patterns are those of equal values
pub same_real : (a b : Real) → a.pattern ≡ b.pattern → a ≡ b
same_real a b e = ap (λ o. unwrap_or o a)
    (sym (with_own_pattern a) ∙ (ap with_pattern e ∙ with_own_pattern b))

abbrev pattern_or : ℕ → Option Real → ℕ
pattern_or d (Some r) = r.pattern
pattern_or d None = d

judged_is : (p : ℕ) (b : Bool) (e : is_pattern p ≡ b) (r : Real) → judged p b e ≡ Some r → r.pattern ≡ p
judged_is p true e r h = sym (ap (pattern_or p) h)
judged_is p false e r h = absurd (cc h)

-- what a pattern is the value of has that pattern
pub pattern_is : (p : ℕ) (r : Real) → with_pattern p ≡ Some r → r.pattern ≡ p
unfolding with_pattern
pattern_is p r h = judged_is p (is_pattern p) refl r h

none_judged : (p : ℕ) (b : Bool) (e : is_pattern p ≡ b) → b ≡ false → judged p b e ≡ None
none_judged p true e f = absurd (cc f)
none_judged p false e f = refl

pub no_value : (p : ℕ) → is_value (number_with p) ≡ false → with_pattern p ≡ None
unfolding with_pattern
no_value p f = none_judged p (is_pattern p) refl (second_false (nat_lt p (2 ^ 32)) (is_value (number_with p)) f)

nan_no_value : (x : Float) → is_nan x ≡ true → is_value x ≡ false
unfolding float_is_finite is_nan
nan_no_value nan h = refl
nan_no_value (inf s) h = absurd (cc h)
nan_no_value (fin s m e) h = absurd (cc h)

pub no_number : (p : ℕ) → 0x7f80_0000 < p % 0x8000_0000 → with_pattern p ≡ None
no_number p above = no_value p (nan_no_value (number_with p)
    (sym (nan_bits_is binary32 p) ∙ (nan_bits_above binary32 p ∙ is_true _ (lt→ltb _ _ above))))

-- ---- numbers

pub value_not_nan : (x : Float) → is_value x ≡ true → T (not (is_nan x))
unfolding float_is_finite is_nan
value_not_nan nan h = absurd (cc h)
value_not_nan (inf s) h = search rules
value_not_nan (fin s m e) h = search rules

pub other_value : (x : Float) → float_is_finite x ≡ true → eq x zero ≡ false → is_value x ≡ true
other_value x f e = rw (f, e) refl

pub real_of_zero : (x : Float) → float_is_finite x ≡ true → eq x zero ≡ true → real_of x ≡ Some zero_real
unfolding real_of
real_of_zero x f z = rw (f, z) refl

pub real_of_other : (x : Float) (r : Real) → float_is_finite x ≡ true → eq x zero ≡ false → r.pattern ≡ to_bits binary32 x
    → real_of x ≡ Some r
unfolding real_of
real_of_other x r f z p = rw (f, z) (ap with_pattern (sym p) ∙ with_own_pattern r)

pub real_of_none : (x : Float) → float_is_finite x ≡ false → real_of x ≡ None
unfolding real_of
real_of_none x f = rw f refl

real_small_by : (a b : Bool) (p : ℕ) → nat_lt p (2 ^ 32) ≡ a → (a && b) ≡ true → p < 2 ^ 32
real_small_by true b p e h = ltb-true p (2 ^ 32) e
real_small_by false b p e h = absurd (cc h)

pub real_small : (r : Real) → r.pattern < 2 ^ 32
real_small r = real_small_by (nat_lt r.pattern (2 ^ 32)) (is_value (number_with r.pattern)) r.pattern refl r.lawful

-- the number of a value is one
pub number_not_nan : (r : Real) → T (not (is_nan (number r)))
number_not_nan r = value_not_nan (number r) (pattern_value r.pattern r.lawful)
