use Rattle.std.proofs.Common.{◌≡◌, ℕ, ◌+◌, ◌*◌, ◌<◌, ◌≤◌, ◌%◌, ◌/◌, ◌^◌, zero, suc, Bool, true, false, List, refl, sym, ap, ◌∙◌, arith, cond}
use Rattle.std.specs.Prelude.{ℤ, pos, negsuc, [], ◌∷◌, length}
use Rattle.std.specs.Int.{cast_unsigned, cast_signed, w32}
use Rattle.std.proofs.lemmas.Int.{ints}
use Rattle.std.proofs.lemmas.Bool.{ltb-true, lt-ltb}
use Rattle.il_values.specs.Values.{is_within}
use Rattle.ctl_blocks.specs.Words.{bit, bits_number, joined_halves, has_bit, high_of, low_of, int_or_zero}

half_back : (z : ℤ) → is_within (2 ^ 31) z ≡ true → (cast_signed w32 (cast_unsigned w32 z) ≡ z) × (cast_unsigned w32 z < 4294967296)
half_back (pos n) h = let lt : n < 2147483648 = ltb-true n 2147483648 h in (omega (arith, ints), omega (arith, ints))
half_back (negsuc n) h = let lt : n < 2147483648 = ltb-true n 2147483648 h in (omega (arith, ints), omega (arith, ints))

low_half : (a b : ℕ) → b < 4294967296 → (a * 4294967296 + b) % 4294967296 ≡ b
low_half a b lt = omega arith

high_half : (a b : ℕ) → b < 4294967296 → (a * 4294967296 + b) / 4294967296 ≡ a
high_half a b lt = omega arith

pub low_back : (h l : ℤ) → is_within (2 ^ 31) l ≡ true → low_of (joined_halves h l) ≡ l
low_back h l s = let b = half_back l s in ap (cast_signed w32) (low_half (cast_unsigned w32 h) (cast_unsigned w32 l) b.1) ∙ b.0

pub high_back : (h l : ℤ) → is_within (2 ^ 31) h ≡ true → is_within (2 ^ 31) l ≡ true → high_of (joined_halves h l) ≡ h
high_back h l s t = let b = half_back h s in let c = half_back l t in ap (cast_signed w32) (high_half (cast_unsigned w32 h) (cast_unsigned w32 l) c.1) ∙ b.0

-- five truths are found again from their number
pub bits_back : (a b c d e : Bool) → let n = bits_number (a ∷ b ∷ c ∷ d ∷ e ∷ []) in (has_bit n 1 ≡ a) × (has_bit n 2 ≡ b) × (has_bit n 4 ≡ c) × (has_bit n 8 ≡ d) × (has_bit n 16 ≡ e)
bits_back true true true true true = (refl, refl, refl, refl, refl)
bits_back true true true true false = (refl, refl, refl, refl, refl)
bits_back true true true false true = (refl, refl, refl, refl, refl)
bits_back true true true false false = (refl, refl, refl, refl, refl)
bits_back true true false true true = (refl, refl, refl, refl, refl)
bits_back true true false true false = (refl, refl, refl, refl, refl)
bits_back true true false false true = (refl, refl, refl, refl, refl)
bits_back true true false false false = (refl, refl, refl, refl, refl)
bits_back true false true true true = (refl, refl, refl, refl, refl)
bits_back true false true true false = (refl, refl, refl, refl, refl)
bits_back true false true false true = (refl, refl, refl, refl, refl)
bits_back true false true false false = (refl, refl, refl, refl, refl)
bits_back true false false true true = (refl, refl, refl, refl, refl)
bits_back true false false true false = (refl, refl, refl, refl, refl)
bits_back true false false false true = (refl, refl, refl, refl, refl)
bits_back true false false false false = (refl, refl, refl, refl, refl)
bits_back false true true true true = (refl, refl, refl, refl, refl)
bits_back false true true true false = (refl, refl, refl, refl, refl)
bits_back false true true false true = (refl, refl, refl, refl, refl)
bits_back false true true false false = (refl, refl, refl, refl, refl)
bits_back false true false true true = (refl, refl, refl, refl, refl)
bits_back false true false true false = (refl, refl, refl, refl, refl)
bits_back false true false false true = (refl, refl, refl, refl, refl)
bits_back false true false false false = (refl, refl, refl, refl, refl)
bits_back false false true true true = (refl, refl, refl, refl, refl)
bits_back false false true true false = (refl, refl, refl, refl, refl)
bits_back false false true false true = (refl, refl, refl, refl, refl)
bits_back false false true false false = (refl, refl, refl, refl, refl)
bits_back false false false true true = (refl, refl, refl, refl, refl)
bits_back false false false true false = (refl, refl, refl, refl, refl)
bits_back false false false false true = (refl, refl, refl, refl, refl)
bits_back false false false false false = (refl, refl, refl, refl, refl)

int_fits_time : (z : ℤ) → is_within (2 ^ 15) z ≡ true → is_within (2 ^ 31) z ≡ true
int_fits_time (pos n) h = let lt : n < 32768 = ltb-true n 32768 h in lt-ltb n 2147483648 (omega arith)
int_fits_time (negsuc n) h = let lt : n < 32768 = ltb-true n 32768 h in lt-ltb n 2147483648 (omega arith)

int_stays : (z : ℤ) → is_within (2 ^ 15) z ≡ true → int_or_zero z ≡ z
int_stays z h = ap (λ b. cond b z (pos 0)) h

-- two numbers of INT are read back from their word
pub ints_back : (h l : ℤ) → is_within (2 ^ 15) h ≡ true → is_within (2 ^ 15) l ≡ true → (int_or_zero (high_of (joined_halves h l)) ≡ h) × (int_or_zero (low_of (joined_halves h l)) ≡ l)
ints_back h l s t = (
  ap int_or_zero (high_back h l (int_fits_time h s) (int_fits_time l t)) ∙ int_stays h s,
  ap int_or_zero (low_back h l (int_fits_time l t)) ∙ int_stays l t,
)

power_above : (k : ℕ) → 0 < 2 ^ k
power_above zero = omega arith
power_above (suc k) = let le : 0 < 2 ^ k = power_above k in omega arith

one_bit : (b : Bool) (n m : ℕ) → n < m → bit b + 2 * n < 2 * m
one_bit true n m lt = omega arith
one_bit false n m lt = omega arith

bits_below : (k : ℕ) (bs : List Bool) → length bs ≤ k → bits_number bs < 2 ^ k
bits_below k [] le = power_above k
bits_below zero (b ∷ bs) le = omega arith
bits_below (suc k) (b ∷ bs) le =
    let few : length bs ≤ k = omega arith in
    let lt : bit b + 2 * bits_number bs < 2 * 2 ^ k = one_bit b (bits_number bs) (2 ^ k) (bits_below k bs few) in
    omega arith

-- the number of five bits at most is small
pub small_bits : (bs : List Bool) → length bs ≤ 5 → bits_number bs < 32
small_bits bs le = bits_below 5 bs le

-- what is read from a state's words is the state, where reading undoes writing
pub read_back : {S : Type 0} (read : List ℕ → S) (words : S → List ℕ) (a s : S) (ws : List ℕ) → a ≡ read ws → words s ≡ ws → read (words s) ≡ s → a ≡ s
read_back read words a s ws e same back = e ∙ ap read (sym same) ∙ back
