-- Bit strings that were made of their patterns.
use Rattle.std.proofs.Common.{◌≡◌, ℕ, ◌<◌, ◌≤◌, ◌<ℤ◌, ◌≤ℤ◌, Bool, true, false, cond, ltb, Option, Some, None, refl, sym, ap, subst, arith}
use Rattle.std.specs.Prelude.{ℤ, pos, negsuc}
use Rattle.std.proofs.lemmas.Bool.{ltb-true, lt-ltb, le-ltb}
use Rattle.std.proofs.lemmas.Int.{ints}
use Rattle.il_values.specs.declared.value.Value.{Value}
use Rattle.il_values.specs.Values.{bits_made}

-- what is made of a number is the bit string whose pattern it is
pub record AreBits (limit : ℕ) (bits : ℕ → Value) (z : ℤ) (v : Value) : Type 0 where
  pub pattern : ℕ
  pub is : bits pattern ≡ v
  pub number : pos pattern ≡ z
  pub small : pattern < limit

bits_by : (limit : ℕ) (bits : ℕ → Value) (n : ℕ) (v : Value) (b : Bool) → ltb n limit ≡ b → cond b (Some (bits n)) None ≡ Some v → AreBits limit bits (pos n) v
bits_by limit bits n v true f e = let is : bits n ≡ v = cc in record { pattern = n; is = is; number = refl; small = ltb-true n limit f }
bits_by limit bits n v false f e = absurd cc

pub bits_are : (limit : ℕ) (bits : ℕ → Value) (z : ℤ) (v : Value) → bits_made limit bits z ≡ Some v → AreBits limit bits z v
bits_are limit bits (pos n) v e = bits_by limit bits n v (ltb n limit) refl e
bits_are limit bits (negsuc n) v e = absurd cc

-- each pattern below the limit makes one
pub bits_again : (limit : ℕ) (bits : ℕ → Value) (n : ℕ) → n < limit → bits_made limit bits (pos n) ≡ Some (bits n)
bits_again limit bits n lt = rw (lt-ltb n limit lt) refl

-- the pattern of one that was made is below the limit
pub bits_small : (limit : ℕ) (bits : ℕ → Value) (n : ℕ) (v : Value) → bits_made limit bits (pos n) ≡ Some v → n < limit
bits_small limit bits n v e = by_test (ltb n limit) refl e
  where
    by_test : (b : Bool) → ltb n limit ≡ b → cond b (Some (bits n)) None ≡ Some v → n < limit
    by_test true f h = ltb-true n limit f
    by_test false f h = absurd cc

pub bits_low : (limit : ℕ) (bits : ℕ → Value) (z : ℤ) → z <ℤ pos 0 → bits_made limit bits z ≡ None
bits_low limit bits (pos n) lt = absurd (omega (arith, ints))
bits_low limit bits (negsuc n) lt = refl

pub bits_high : (limit : ℕ) (bits : ℕ → Value) (z : ℤ) → pos limit ≤ℤ z → bits_made limit bits z ≡ None
bits_high limit bits (pos n) le = rw (le-ltb n limit (omega (arith, ints))) refl
bits_high limit bits (negsuc n) le = refl
