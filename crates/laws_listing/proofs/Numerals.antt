-- Decimal digits, and what they are read as.
use Rattle.std.proofs.Common.{◌≡◌, ℕ, ◌+◌, ◌-◌, ◌*◌, ◌^◌, ◌<◌, ◌≤◌, Bool, true, false, cond, eqb, leb, List, [], ◌∷◌, length, Some, refl, sym, ap, subst, arith, ◌&&◌}
use Rattle.std.specs.Prelude.{map, codes}
use Rattle.std.specs.List.{list_all}
use Rattle.std.specs.Int.Digits.{digits_of, number_from_digits, number_from_digits_after, AllBelowBase}
use Rattle.std.proofs.lemmas.Int.Digits.{all_below_base_digits_of, number_digits_of, length-digits_of-le}
use Rattle.std.proofs.lemmas.List.{length-map}
use Rattle.std.proofs.lemmas.Bool.{lt-ltb, le-leb, eqb-true, ne_eqb}
use Rattle.il_model.specs.Literals.{digit_of, are_digits, value_behind, integer_of}
use Rattle.il_lister.specs.Listing.{decimal}
use Rattle.laws_listing.proofs.Fronts.{begins}

-- a byte that is a decimal digit
abbrev pub is_digit : ℕ → Bool
is_digit b = leb 48 b && leb b 57

digit_byte : (d : ℕ) → d < 10 → is_digit (48 + d) ≡ true
digit_byte d lt = rw (le-leb 48 (48 + d) (omega arith), le-leb (48 + d) 57 (omega arith)) refl

no_underscore : (d : ℕ) → d < 10 → eqb (48 + d) 95 ≡ false
no_underscore d lt = ne_eqb (48 + d) 95 (λ e. omega (arith, e))

digit_value : (d : ℕ) → d < 10 → digit_of (48 + d) ≡ d
digit_value d lt =
    let e : 48 + d - 48 ≡ d = omega arith in
    rw (le-leb 48 (48 + d) (omega arith), le-leb (48 + d) 57 (omega arith), e) refl

abbrev digits : List ℕ → List ℕ
digits ds = map (λ d. 48 + d) ds

all_digits : (ds : List ℕ) → AllBelowBase 10 ds → list_all is_digit (digits ds) ≡ true
all_digits [] all = refl
all_digits (d ∷ ds) all = rw (digit_byte d all.0, all_digits ds all.1) refl

are_good : (ds : List ℕ) → AllBelowBase 10 ds → are_digits 10 true (digits ds) ≡ true
unfolding are_digits
are_good [] all = refl
are_good (d ∷ ds) all = rw (no_underscore d all.0, digit_value d all.0, lt-ltb d 10 all.0) (are_good ds all.1)

are_some : (d : ℕ) (ds : List ℕ) → AllBelowBase 10 (d ∷ ds) → are_digits 10 false (digits (d ∷ ds)) ≡ true
unfolding are_digits
are_some d ds all = rw (no_underscore d all.0, digit_value d all.0, lt-ltb d 10 all.0) (are_good ds all.1)

value_is : (n : ℕ) (ds : List ℕ) → AllBelowBase 10 ds → value_behind 10 n (digits ds) ≡ number_from_digits_after 10 n ds
unfolding value_behind
value_is n [] all = refl
value_is n (d ∷ ds) all = rw (no_underscore d all.0, digit_value d all.0) (value_is (n * 10 + d) ds all.1)

-- a text of digits that are read as a number
pub record IsNumeral (n : ℕ) (w : List ℕ) : Type 0 where
  pub bytes : list_all is_digit w ≡ true
  pub some : begins is_digit w ≡ true
  pub reads : integer_of 10 w ≡ Some n

numeral_by : (n : ℕ) (ds : List ℕ) → AllBelowBase 10 ds → number_from_digits 10 ds ≡ n → (n ≡ 0 → ⊥) → IsNumeral n (digits ds)
numeral_by n [] all e some = absurd (some (sym e))
numeral_by n (d ∷ ds) all e some = record {
  bytes = all_digits (d ∷ ds) all;
  some = digit_byte d all.0;
  reads = rw (are_some d ds all, value_is 0 (d ∷ ds) all) (ap (λ (k : ℕ). Some k) e);
}

zero_numeral : IsNumeral 0 (codes "0")
unfolding are_digits value_behind
zero_numeral = record { bytes = refl; some = refl; reads = refl }

numeral_if : (n : ℕ) (b : Bool) → eqb n 0 ≡ b → IsNumeral n (cond b (codes "0") (digits (digits_of 10 n)))
numeral_if n true e = subst (λ (k : ℕ). IsNumeral k (codes "0")) (sym (eqb-true n 0 e)) zero_numeral
numeral_if n false e = numeral_by n (digits_of 10 n) (all_below_base_digits_of 10 n (omega arith)) (number_digits_of 10 n (omega arith)) (λ z. let f : eqb 0 0 ≡ false = subst (λ (k : ℕ). eqb k 0 ≡ false) z e in absurd cc)

pub numeral : (n : ℕ) → IsNumeral n (decimal n)
numeral n = numeral_if n (eqb n 0) refl

length_if : (k n : ℕ) (b : Bool) → 0 < k → n < 10 ^ k → length (cond b (codes "0") (digits (digits_of 10 n))) ≤ k
length_if k n true some lt = omega arith
length_if k n false some lt = omega (arith, length-map (digits_of 10 n) (λ (d : ℕ). 48 + d), length-digits_of-le 10 k n (omega arith) lt)

-- as many digits as the number has at most
pub decimal_length : (k n : ℕ) → 0 < k → n < 10 ^ k → length (decimal n) ≤ k
decimal_length k n some lt = length_if k n (eqb n 0) some lt
