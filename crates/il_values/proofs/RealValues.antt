-- REALs that were made of their patterns, and bare numbers.
use Rattle.std.proofs.Common.{◌≡◌, ℕ, ◌≤◌, ◌^◌, ◌<ℤ◌, ◌≤ℤ◌, Option, Some, None, refl, ap, arith}
use Rattle.std.specs.Prelude.{ℤ, pos, negsuc, nat_abs}
use Rattle.std.proofs.lemmas.Bool.{le-ltb}
use Rattle.std.proofs.lemmas.Int.{ints}
use Rattle.std.specs.Option.{option_map}
use Rattle.il_real.specs.declared.real.Real.{Real}
use Rattle.il_real.specs.Reals.{with_pattern}
use Rattle.il_real.proofs.Values.{with_own_pattern, pattern_is, same_real, real_small}
use Rattle.il_values.specs.declared.value.Ty.{Ty}
use Rattle.il_values.specs.declared.value.Ty.TheVariants as types
use Rattle.il_values.specs.declared.value.Value.{Value}
use Rattle.il_values.specs.declared.value.Value.TheVariants as values
use Rattle.il_values.specs.Values.{real_made, typed_value, bare_value}

real_by : (o : Option Real) (v : Value) → option_map values.Real o ≡ Some v → (r : Real) × (o ≡ Some r) × (values.Real r ≡ v)
real_by (Some r) v e = (r, refl, cc)
real_by None v e = absurd cc

-- what is made of a number is the REAL whose pattern it is
pub real_is : (z : ℤ) (v : Value) → real_made z ≡ Some v → (r : Real) × (values.Real r ≡ v) × (pos r.pattern ≡ z)
real_is (pos n) v e = let m = real_by (with_pattern n) v e in (m.0, m.2, ap pos (pattern_is n m.0 m.1))
real_is (negsuc n) v e = absurd cc

-- each REAL is made of its pattern
pub real_again : (r : Real) → real_made (pos r.pattern) ≡ Some (values.Real r)
real_again r = ap (option_map values.Real) (with_own_pattern r)

pub real_same : (a b : Real) → pos a.pattern ≡ pos b.pattern → values.Real a ≡ values.Real b
real_same a b e = ap values.Real (same_real a b (ap nat_abs e))

-- a bare number's value is that of its type and number
pub bare_made : (t : Ty) (z : ℤ) (v : Value) → bare_value t z ≡ Some v → typed_value t z ≡ Some v
bare_made types.Bool z v e = e
bare_made types.Int z v e = e
bare_made types.Dint z v e = e
bare_made types.Time z v e = e
bare_made types.Lint z v e = e
bare_made types.Real z v e = absurd cc
bare_made types.Word z v e = e
bare_made types.Dword z v e = e

-- ---- numbers that are too great or too small

no_real_by : (p : ℕ) (o : Option Real) → with_pattern p ≡ o → 2 ^ 32 ≤ p → with_pattern p ≡ None
no_real_by p None e le = e
no_real_by p (Some r) e le = absurd (omega (arith, real_small r, pattern_is p r e, le))

pub real_low : (z : ℤ) → z <ℤ pos 0 → real_made z ≡ None
real_low (pos n) lt = absurd (omega (arith, ints))
real_low (negsuc n) lt = refl

pub real_high : (z : ℤ) → pos 4294967296 ≤ℤ z → real_made z ≡ None
real_high (pos n) le = ap (option_map values.Real) (no_real_by n (with_pattern n) refl (omega (arith, ints)))
real_high (negsuc n) le = refl

-- no type has numbers past 64 bits
pub typed_low : (t : Ty) (z : ℤ) → z <ℤ negsuc 9223372036854775807 → typed_value t z ≡ None
typed_low t (pos n) lt = absurd (omega (arith, ints))
typed_low types.Bool (negsuc n) lt = refl
typed_low types.Int (negsuc n) lt = rw (le-ltb n (2 ^ 15) (omega (arith, ints))) refl
typed_low types.Dint (negsuc n) lt = rw (le-ltb n (2 ^ 31) (omega (arith, ints))) refl
typed_low types.Time (negsuc n) lt = rw (le-ltb n (2 ^ 31) (omega (arith, ints))) refl
typed_low types.Lint (negsuc n) lt = rw (le-ltb n (2 ^ 63) (omega (arith, ints))) refl
typed_low types.Real (negsuc n) lt = refl
typed_low types.Word (negsuc n) lt = refl
typed_low types.Dword (negsuc n) lt = refl

pub typed_high : (t : Ty) (z : ℤ) → pos 9223372036854775808 ≤ℤ z → typed_value t z ≡ None
typed_high t (negsuc n) le = absurd (omega (arith, ints))
typed_high types.Bool (pos n) le = rw (le-ltb n 1 (omega (arith, ints)), le-ltb n 2 (omega (arith, ints))) refl
typed_high types.Int (pos n) le = rw (le-ltb n (2 ^ 15) (omega (arith, ints))) refl
typed_high types.Dint (pos n) le = rw (le-ltb n (2 ^ 31) (omega (arith, ints))) refl
typed_high types.Time (pos n) le = rw (le-ltb n (2 ^ 31) (omega (arith, ints))) refl
typed_high types.Lint (pos n) le = rw (le-ltb n (2 ^ 63) (omega (arith, ints))) refl
typed_high types.Real (pos n) le = real_high (pos n) (search (arith, ints))
typed_high types.Word (pos n) le = rw (le-ltb n (2 ^ 16) (omega (arith, ints))) refl
typed_high types.Dword (pos n) le = rw (le-ltb n (2 ^ 32) (omega (arith, ints))) refl
