-- The numbers of a location, held at a cap.
use Rattle.std.proofs.Common.{◌≡◌, ℕ, ◌+◌, ◌*◌, ◌<◌, ◌≤◌, min, Bool, true, false, cond, eqb, ltb, List, [], length, take, drop, Option, Some, None, refl, sym, ap, ◌∙◌, arith, inl, inr, ◌&&◌}
use Rattle.std.proofs.Math.ListN.{drop_of_length-le}
use Rattle.std.specs.Prelude.{suc, ◌%◌, option_map}
use Rattle.std.proofs.lemmas.Bool.{cases_lt, le-ltb, ltb-true, ltb-false, eqb-true}
use Rattle.il_model.specs.declared.program.Area.{Area}
use Rattle.il_model.specs.declared.program.Loc.TheVariants.{Bit, Word}
use Rattle.il_model.specs.Literals.{integer_of, are_digits}
use Rattle.il_model.specs.Locations.{begins_double, bit_of, word_of, double_of, dot_at, bit_at}

abbrev pub held : ℕ → ℕ
held n = min n 4294967296

held-lt : (n k : ℕ) → k ≤ 4294967296 → ltb (held n) k ≡ ltb n k
held-lt n k le = elim (cases_lt n k) [
  | inl small ↦ let e : held n ≡ n = omega arith in rw e refl
  | inr large ↦ let a : ltb (held n) k ≡ false = le-ltb (held n) k (omega arith) in let b : ltb n k ≡ false = le-ltb n k large in a ∙ sym b
]

held_is : (n k : ℕ) → k ≤ 4294967296 → ltb n k ≡ true → held n ≡ n
held_is n k le is = elim (cases_lt n k) [
  | inl small ↦ omega arith
  | inr large ↦ let b : ltb n k ≡ false = le-ltb n k large in absurd cc
]

pub bit_capped : (area : Area) (b n : Option ℕ) → bit_of area (option_map (λ k. min k 4294967296) b) (option_map (λ k. min k 4294967296) n) ≡ bit_of area b n
bit_capped area None n = refl
bit_capped area (Some b) None = refl
bit_capped area (Some b) (Some n) = chosen (ltb b 64) (ltb n 8) refl refl
  where
    chosen : (p q : Bool) → ltb b 64 ≡ p → ltb n 8 ≡ q → cond (ltb (held b) 64 && ltb (held n) 8) (Some (Bit area (8 * held b + held n))) None ≡ cond (ltb b 64 && ltb n 8) (Some (Bit area (8 * b + n))) None
    chosen true true e f = rw (held-lt b 64 (omega arith), held-lt n 8 (omega arith), held_is b 64 (omega arith) e, held_is n 8 (omega arith) f) refl
    chosen true false e f = rw (held-lt b 64 (omega arith), held-lt n 8 (omega arith), e, f) refl
    chosen false q e f = rw (held-lt b 64 (omega arith), held-lt n 8 (omega arith), e) refl

pub word_capped : (area : Area) (k : Option ℕ) → word_of area (option_map (λ n. min n 4294967296) k) ≡ word_of area k
word_capped area None = refl
word_capped area (Some k) = chosen (ltb k 64) refl
  where
    chosen : (p : Bool) → ltb k 64 ≡ p → cond (ltb (held k) 64) (Some (Word area (held k))) None ≡ cond (ltb k 64) (Some (Word area k)) None
    chosen true e = rw (held-lt k 64 (omega arith), held_is k 64 (omega arith) e) refl
    chosen false e = rw (held-lt k 64 (omega arith), e) refl

-- a double word is two words of its area
pub double_fits : (n : ℕ) → begins_double n ≡ true → suc n < 64
double_fits n e = by_tests (ltb n 64) (eqb (n % 2) 0) refl refl e
  where
    by_tests : (p q : Bool) → ltb n 64 ≡ p → eqb (n % 2) 0 ≡ q → (p && q) ≡ true → suc n < 64
    by_tests true true f g h = let below = ltb-true n 64 f in let even = eqb-true (n % 2) 0 g in omega arith
    by_tests true false f g h = absurd cc
    by_tests false q f g h = absurd cc

double_capped_by : (area : Area) (k : ℕ) (p : Bool) → ltb k 64 ≡ p → double_of area (Some (held k)) ≡ double_of area (Some k)
double_capped_by area k true e = let small = ltb-true k 64 e in let same : held k ≡ k = omega arith in ap (λ (n : ℕ). double_of area (Some n)) same
double_capped_by area k false e = let large = ltb-false k 64 e in let past : 64 ≤ held k = omega arith in rw (le-ltb (held k) 64 past, e) refl

pub double_capped : (area : Area) (k : Option ℕ) → double_of area (option_map (λ n. min n 4294967296) k) ≡ double_of area k
double_capped area None = refl
double_capped area (Some k) = double_capped_by area k (ltb k 64) refl

bit_none : (area : Area) (b : Option ℕ) → bit_of area b None ≡ None
bit_none area None = refl
bit_none area (Some b) = refl

none_here : integer_of 10 [] ≡ None
unfolding are_digits
none_here = refl

-- no dot, no bit
pub no_bit : (area : Area) (bytes : List ℕ) → length bytes ≤ dot_at bytes → bit_at area bytes ≡ None
unfolding bit_at
no_bit area bytes le =
    let empty : drop (dot_at bytes + 1) bytes ≡ [] = drop_of_length-le bytes (omega arith) in
    rw (empty, none_here) (bit_none area (integer_of 10 (take (dot_at bytes) bytes)))
