-- Laws of digits.
use Rattle.std.proofs.Common.{◌≡◌, ℕ, suc, ◌+◌, ◌*◌, ◌<◌, ◌≤◌, min, Bool, true, false, cond, eqb, ltb, eq-eqb, ◌≢◌, get_or, drop, List, [], ◌∷◌, length, Option, Some, None, refl, sym, ap, ◌∙◌, arith, inl, inr, add-one, drop-cons}
use Rattle.std.proofs.Math.Nat.{mul-le-mul_left}
use Rattle.std.proofs.lemmas.Bool.{cases_lt, eqb-true, lt-ltb}
use Rattle.std.specs.Prelude.{option_map}
use Rattle.il_model.specs.Literals.{digit_of, are_digits, value_behind, integer_behind}

min-step : (top base x d : ℕ) → 0 < base → min (min x top * base + d) top ≡ min (x * base + d) top
min-step top base x d pos =
    let a : top * 1 ≤ top * base = mul-le-mul_left top pos in
    let b : x * 1 ≤ x * base = mul-le-mul_left x pos in
    elim (cases_lt top x) [
      | inl above ↦ let e : min x top ≡ top = omega arith in rw e (omega arith)
      | inr within ↦ let e : min x top ≡ x = omega arith in rw e refl
    ]

-- A value that is held at the top leads to the same number, held at the top.
pub value-capped : (top base x : ℕ) (bs : List ℕ) → 0 < base → min (value_behind base (min x top) bs) top ≡ min (value_behind base x bs) top
unfolding value_behind
value-capped top base x [] pos = omega arith
value-capped top base x (b ∷ bs) pos = chosen (eqb b 95) (value-capped top base x bs pos) (λ y. value-capped top base y bs pos)
  where
    chosen : (t : Bool) → min (value_behind base (min x top) bs) top ≡ min (value_behind base x bs) top
        → ((y : ℕ) → min (value_behind base (min y top) bs) top ≡ min (value_behind base y bs) top)
        → min (cond t (value_behind base (min x top) bs) (value_behind base (min x top * base + digit_of b) bs)) top ≡ min (cond t (value_behind base x bs) (value_behind base (x * base + digit_of b) bs)) top
    chosen true same again = same
    chosen false same again =
        sym (again (min x top * base + digit_of b)) ∙ ap (λ (v : ℕ). min (value_behind base v bs) top) (min-step top base x (digit_of b) pos) ∙ again (x * base + digit_of b)

pub integer-capped : (top base x : ℕ) (behind : Bool) (bs : List ℕ) → 0 < base → option_map (λ n. min n top) (integer_behind base behind (min x top) bs) ≡ option_map (λ n. min n top) (integer_behind base behind x bs)
integer-capped top base x behind bs pos = chosen (are_digits base behind bs)
  where
    chosen : (t : Bool) → option_map (λ n. min n top) (cond t (Some (value_behind base (min x top) bs)) None) ≡ option_map (λ n. min n top) (cond t (Some (value_behind base x bs)) None)
    chosen true = ap (λ (v : ℕ). Some v) (value-capped top base x bs pos)
    chosen false = refl

not-eqb : (a b : ℕ) → a ≢ b → eqb a b ≡ false
not-eqb a b h = chosen (eqb a b) refl
  where
    chosen : (t : Bool) → eqb a b ≡ t → t ≡ false
    chosen true e = absurd (h (eqb-true a b e))
    chosen false e = refl

pub digit_at : (top base n m : ℕ) (behind : Bool) (bytes : List ℕ) (i : ℕ) (total : Option ℕ) → 0 < base → i < length bytes → get_or bytes i 0 ≢ 95 → digit_of (get_or bytes i 0) < base → m ≡ min (n * base + digit_of (get_or bytes i 0)) top
    → option_map (λ k. min k top) (integer_behind base behind n (drop i bytes)) ≡ total → option_map (λ k. min k top) (integer_behind base true m (drop (i + 1) bytes)) ≡ total
unfolding are_digits value_behind
digit_at top base n m behind bytes i total pos lt other small held so_far =
    let b = get_or bytes i 0 in
    let bs = drop (suc i) bytes in
    let no : eqb b 95 ≡ false = not-eqb b 95 other in
    let yes : ltb (digit_of b) base ≡ true = lt-ltb (digit_of b) base small in
    let turned : option_map (λ k. min k top) (integer_behind base behind n (b ∷ bs)) ≡ option_map (λ k. min k top) (integer_behind base true (n * base + digit_of b) bs) = rw (no, yes) refl in
    let split : drop i bytes ≡ b ∷ bs = drop-cons bytes i 0 lt in
    rw (held, add-one) (integer-capped top base (n * base + digit_of b) true bs pos ∙ sym turned ∙ ap (λ (l : List ℕ). option_map (λ k. min k top) (integer_behind base behind n l)) (sym split) ∙ so_far)

pub underscore_at : (base n : ℕ) (f : ℕ → ℕ) (bytes : List ℕ) (i : ℕ) (total : Option ℕ) → i < length bytes → get_or bytes i 0 ≡ 95
    → option_map f (integer_behind base true n (drop i bytes)) ≡ total → option_map f (integer_behind base false n (drop (i + 1) bytes)) ≡ total
unfolding are_digits value_behind
underscore_at base n f bytes i total lt is so_far =
    let b = get_or bytes i 0 in
    let bs = drop (suc i) bytes in
    let yes : eqb b 95 ≡ true = eq-eqb b 95 is in
    let turned : option_map f (integer_behind base true n (b ∷ bs)) ≡ option_map f (integer_behind base false n bs) = rw yes refl in
    let split : drop i bytes ≡ b ∷ bs = drop-cons bytes i 0 lt in
    rw add-one (sym turned ∙ ap (λ (l : List ℕ). option_map f (integer_behind base true n l)) (sym split) ∙ so_far)
