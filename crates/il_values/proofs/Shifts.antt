-- What is shifted by the width or more is gone.
use Rattle.std.proofs.Common.{◌≡◌, ℕ, zero, suc, ◌+◌, ◌-◌, ◌*◌, ◌/◌, ◌%◌, ◌^◌, ◌<◌, ◌≤◌, refl, sym, ap, ◌∙◌, arith}
use Rattle.std.proofs.lemmas.Nat.{pow-add, div_below}
use Rattle.std.proofs.Math.Nat.{mul-mod_right, pow-le-pow_right}

-- a power of 2 from another on
split_power : (w k : ℕ) → w ≤ k → 2 ^ k ≡ 2 ^ w * 2 ^ (k - w)
split_power w k le = let e : k ≡ w + (k - w) = omega arith in ap (λ (j : ℕ). 2 ^ j) e ∙ pow-add 2 w (k - w)

swapped : (n p q : ℕ) → n * (p * q) ≡ p * (n * q)
swapped n p q = grind arith

pub left_gone : (w n k : ℕ) → w ≤ k → n * 2 ^ k % 2 ^ w ≡ 0
left_gone w n k le =
    ap (λ (x : ℕ). n * x % 2 ^ w) (split_power w k le)
    ∙ ap (λ (x : ℕ). x % 2 ^ w) (swapped n (2 ^ w) (2 ^ (k - w)))
    ∙ mul-mod_right (2 ^ w) (n * 2 ^ (k - w))

pub right_gone : (w n k : ℕ) → n < 2 ^ w → w ≤ k → n / 2 ^ k ≡ 0
right_gone w n k lt le =
    let more : 2 ^ w ≤ 2 ^ k = pow-le-pow_right (omega arith) le in
    let some : 0 < 2 ^ k = omega (arith, lt, more) in
    let small : n < 1 * 2 ^ k = omega (arith, lt, more) in
    let below : n / 2 ^ k < 1 = div_below n (2 ^ k) 1 some small in
    omega (arith, below)
