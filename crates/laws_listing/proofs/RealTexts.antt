-- The text of a REAL has bytes that a literal may have, and few of them.
use Rattle.std.proofs.Common.{◌≡◌, ℕ, zero, suc, ◌+◌, ◌-◌, ◌*◌, ◌/◌, ◌%◌, ◌^◌, ◌<◌, ◌≤◌, Bool, true, false, cond, eqb, List, [], ◌∷◌, ◌++◌, length, take, drop, refl, sym, ◌∙◌, subst, arith, ◌||◌}
use Rattle.std.specs.Prelude.{codes, replicate, min, nat_lt, nat_eq}
use Rattle.std.specs.Fmt.{decimal as printed}
use Rattle.std.specs.Float.{Float, float_with_sign, is_sign_negative}
use Rattle.std.specs.List.{list_all}
use lib.Ieee.{eq}
use Rattle.std.proofs.lemmas.List.{length-append, length-take, length-drop, length-replicate}
use Rattle.std.proofs.Math.Nat.{div-le_self}
use Rattle.std.proofs.Math.Dec.{eqb-suc-zero}
use Rattle.std.proofs.lemmas.Fmt.{decimal_digit, decimal-digits_of}
use Rattle.std.proofs.lemmas.Bool.{ltb-true, cond-false}
use Rattle.il_real.specs.declared.decimal.Decimal.{Decimal}
use Rattle.il_real.specs.declared.real.Real.{Real}
use Rattle.il_real.specs.Reals.{number}
use Rattle.il_real.specs.Literals.{real_literal}
use Rattle.il_real.specs.Decimals.{decimal_number, place_of, digits_at, held_digits, first_digits, rounded, shorter_or, shortened, short_decimal}
use Rattle.il_real.specs.Texts.{more_digits, exponent_text, behind_text, inside_text, before_text, far_text, digits_text, decimal_text, minus_text, plain_text, is_found, pattern_text, real_text}
use Rattle.il_real.proofs.Values.{real_small}
use Rattle.il_reader.specs.Tokens.{is_within, is_letter_byte, is_literal_byte}
use Rattle.il_lister.specs.Listing.{decimal}
use Rattle.laws_listing.proofs.Fronts.{both_true, all_weaker, all_both}
use Rattle.laws_listing.proofs.Numerals.{is_digit, numeral, decimal_length}

pub literal_digit : (b : ℕ) → is_digit b ≡ true → is_literal_byte b ≡ true
literal_digit b is = by_letter (is_letter_byte b) is
  where
    by_letter : (p : Bool) → is_digit b ≡ true → (p || is_within 48 57 b || eqb b 35 || eqb b 46 || eqb b 43 || eqb b 45) ≡ true
    by_letter true h = refl
    by_letter false h = rw h refl

-- so many bytes at most, each of which a literal may have
pub record IsLiteralText (n : ℕ) (w : List ℕ) : Type 0 where
  pub bytes : list_all is_literal_byte w ≡ true
  pub short : length w ≤ n

joined : (m n : ℕ) (v w : List ℕ) → IsLiteralText m v → IsLiteralText n w → IsLiteralText (m + n) (v ++ w)
joined m n v w a b =
    let p = a.short in
    let q = b.short in
    record { bytes = all_both is_literal_byte v w a.bytes b.bytes; short = omega (arith, length-append v w, p, q) }

wider : (m n : ℕ) (w : List ℕ) → IsLiteralText m w → m ≤ n → IsLiteralText n w
wider m n w a le = let p = a.short in record { bytes = a.bytes; short = omega (arith, p, le) }

either : (n : ℕ) (b : Bool) (v w : List ℕ) → IsLiteralText n v → IsLiteralText n w → IsLiteralText n (cond b v w)
either n true v w x y = x
either n false v w x y = y

-- ---- parts of a text

all_taken : (p : ℕ → Bool) (i : ℕ) (w : List ℕ) → list_all p w ≡ true → list_all p (take i w) ≡ true
all_taken p zero w all = refl
all_taken p (suc i) [] all = refl
all_taken p (suc i) (b ∷ bs) all = let h = both_true (p b) (list_all p bs) all in rw (h.0, all_taken p i bs h.1) refl

all_dropped : (p : ℕ → Bool) (i : ℕ) (w : List ℕ) → list_all p w ≡ true → list_all p (drop i w) ≡ true
all_dropped p zero w all = all
all_dropped p (suc i) [] all = refl
all_dropped p (suc i) (b ∷ bs) all = all_dropped p i bs (both_true (p b) (list_all p bs) all).1

all_zeros : (n : ℕ) → list_all is_literal_byte (replicate n 48) ≡ true
all_zeros zero = refl
all_zeros (suc n) = all_zeros n

taken : (n i : ℕ) (w : List ℕ) → IsLiteralText n w → IsLiteralText n (take i w)
taken n i w is = let p = is.short in record { bytes = all_taken is_literal_byte i w is.bytes; short = omega (arith, length-take i w, p) }

first : (n : ℕ) (w : List ℕ) → IsLiteralText n w → IsLiteralText 1 (take (min 1 (length w)) w)
first n w is = record { bytes = all_taken is_literal_byte (min 1 (length w)) w is.bytes; short = omega (arith, length-take (min 1 (length w)) w) }

dropped : (n i : ℕ) (w : List ℕ) → IsLiteralText n w → IsLiteralText n (drop i w)
dropped n i w is = let p = is.short in record { bytes = all_dropped is_literal_byte i w is.bytes; short = omega (arith, length-drop i w, p) }

zeros : (m n : ℕ) → n ≤ m → IsLiteralText m (replicate n 48)
zeros m n le = record { bytes = all_zeros n; short = omega (arith, length-replicate {A = ℕ} n 48, le) }

-- a number is printed in its decimal digits
printed_is : (n : ℕ) → n < 2 ^ 64 → printed n ≡ decimal n
printed_is zero lt = decimal_digit 0 (omega arith)
printed_is (suc n) lt = decimal-digits_of (suc n) (omega arith) lt ∙ sym (cond-false _ _ _ (eqb-suc-zero n))

printed_text : (k n : ℕ) → 0 < k → n < 10 ^ k → n < 2 ^ 64 → IsLiteralText k (printed n)
printed_text k n some lt small = subst (IsLiteralText k) (sym (printed_is n small)) (record {
  bytes = all_weaker is_digit is_literal_byte literal_digit (decimal n) (numeral n).bytes;
  short = decimal_length k n some lt;
})

-- ---- digits with their point

behind_so : (w : List ℕ) (place : ℕ) → IsLiteralText 14 w → length w + place < 63 → IsLiteralText 30 (behind_text w place)
behind_so w place is lt =
    wider 26 30 (behind_text w place)
    (joined 14 12 w (replicate (place - 53) 48 ++ codes ".0") is (joined 10 2 (replicate (place - 53) 48) (codes ".0") (zeros 10 (place - 53) (omega (arith, lt))) (record { bytes = refl; short = omega arith })))
    (omega arith)

inside_so : (w : List ℕ) (place : ℕ) → IsLiteralText 14 w → IsLiteralText 30 (inside_text w place)
inside_so w place is =
    let i = length w + place - 53 in
    wider 29 30 (inside_text w place)
    (joined 14 15 (take i w) (codes "." ++ drop i w) (taken 14 i w is) (joined 1 14 (codes ".") (drop i w) (record { bytes = refl; short = omega arith }) (dropped 14 i w is)))
    (omega arith)

before_so : (w : List ℕ) (place : ℕ) → IsLiteralText 14 w → 49 < length w + place → IsLiteralText 30 (before_text w place)
before_so w place is lt =
    let n = 53 - (length w + place) in
    wider 19 30 (before_text w place)
    (joined 2 17 (codes "0.") (replicate n 48 ++ w) (record { bytes = refl; short = omega arith }) (joined 3 14 (replicate n 48) w (zeros 3 n (omega (arith, lt))) is))
    (omega arith)

more_so : (w : List ℕ) → IsLiteralText 14 w → IsLiteralText 14 (more_digits w)
more_so w is = either 14 (nat_lt 1 (length w)) (drop 1 w) (codes "0") (dropped 14 1 w is) (record { bytes = refl; short = omega arith })

exponent_so : (place : ℕ) → place < 110 → IsLiteralText 4 (exponent_text place)
exponent_so place lt =
    either 4 (nat_lt place 53) (codes "E-" ++ printed (53 - place)) (codes "E" ++ printed (place - 53))
    (joined 2 2 (codes "E-") (printed (53 - place)) (record { bytes = refl; short = omega arith }) (printed_text 2 (53 - place) (omega arith) (omega arith) (omega arith)))
    (wider 3 4 (codes "E" ++ printed (place - 53)) (joined 1 2 (codes "E") (printed (place - 53)) (record { bytes = refl; short = omega arith }) (printed_text 2 (place - 53) (omega arith) (omega (arith, lt)) (omega (arith, lt)))) (omega arith))

far_so : (w : List ℕ) (place : ℕ) → IsLiteralText 14 w → place ≤ 92 → IsLiteralText 30 (far_text w place)
far_so w place is le =
    let p = is.short in
    let e = length w + place - 1 in
    wider 20 30 (far_text w place)
    (joined 1 19 (take (min 1 (length w)) w) (codes "." ++ (more_digits w ++ exponent_text e)) (first 14 w is)
    (joined 1 18 (codes ".") (more_digits w ++ exponent_text e) (record { bytes = refl; short = omega arith })
    (joined 14 4 (more_digits w) (exponent_text e) (more_so w is) (exponent_so e (omega (arith, p, le))))))
    (omega arith)

digits_so : (w : List ℕ) (place : ℕ) → IsLiteralText 14 w → place ≤ 92 → IsLiteralText 30 (digits_text w place)
unfolding digits_text
digits_so w place is le = by_tests (nat_lt place 53) (nat_lt 53 (length w + place)) (nat_lt 49 (length w + place)) (nat_lt (length w + place) 63) refl refl
  where
    by_tests : (a b c d : Bool) → nat_lt 49 (length w + place) ≡ c → nat_lt (length w + place) 63 ≡ d
        → IsLiteralText 30 (cond a (cond b (inside_text w place) (cond c (before_text w place) (far_text w place))) (cond d (behind_text w place) (far_text w place)))
    by_tests true true c d e f = inside_so w place is
    by_tests true false true d e f = before_so w place is (ltb-true 49 (length w + place) e)
    by_tests true false false d e f = far_so w place is le
    by_tests false b c true e f = behind_so w place is (ltb-true (length w + place) 63 f)
    by_tests false b c false e f = far_so w place is le

-- ---- decimals of few digits

record IsSmall (d : Decimal) : Type 0 where
  digits : d.digits < 100000000000000
  place : d.place ≤ 92

-- one that is found first, before digits are left out
record IsFirst (d : Decimal) : Type 0 where
  digits : d.digits ≤ 10000000000000
  place : d.place ≤ 80

first_small : (d : Decimal) → IsFirst d → IsSmall d
first_small d is = let p = is.digits in let q = is.place in record { digits = omega (arith, p); place = omega (arith, q) }

rounded_small : (d : Decimal) (unit n : ℕ) → IsFirst d → unit ≤ 1000000000000 → n ≤ 12 → IsSmall (rounded d unit n)
rounded_small d unit n is few le =
    let p = is.digits in
    let q = is.place in
    let x = d.digits + (unit / 2 - 1) + d.digits / unit % 2 in
    let half : unit / 2 ≤ unit = omega arith in
    let odd : d.digits / unit % 2 < 2 = omega arith in
    let less = div-le_self x unit in
    record { digits = omega (arith, p, few, half, odd, less); place = omega (arith, q, le) }

shorter_small : (b : Bool) (s d : Decimal) → IsSmall s → IsSmall d → IsSmall (cond b s d)
shorter_small true s d x y = x
shorter_small false s d x y = y

shortened_small : (d : Decimal) (x : Float) → IsFirst d → IsSmall (shortened d x)
unfolding shortened
shortened_small d x is =
    step 1000000000000 12 _ (omega arith) (omega arith)
    (step 100000000000 11 _ (omega arith) (omega arith)
    (step 10000000000 10 _ (omega arith) (omega arith)
    (step 1000000000 9 _ (omega arith) (omega arith)
    (step 100000000 8 _ (omega arith) (omega arith)
    (step 10000000 7 _ (omega arith) (omega arith)
    (step 1000000 6 _ (omega arith) (omega arith)
    (step 100000 5 _ (omega arith) (omega arith)
    (step 10000 4 _ (omega arith) (omega arith)
    (step 1000 3 d (omega arith) (omega arith) (first_small d is))))))))))
  where
    step : (unit n : ℕ) (longer : Decimal) → unit ≤ 1000000000000 → n ≤ 12 → IsSmall longer → IsSmall (shorter_or x (rounded d unit n) longer)
    step unit n longer few le h = shorter_small (eq (decimal_number (rounded d unit n)) x) (rounded d unit n) longer (rounded_small d unit n is few le) h

held_few : (n : ℕ) → held_digits n ≤ 10000000000000
held_few n = by_test (nat_lt n 10000000000000) refl
  where
    by_test : (b : Bool) → nat_lt n 10000000000000 ≡ b → cond b n 10000000000000 ≤ 10000000000000
    by_test true e = let lt = ltb-true n 10000000000000 e in omega (arith, lt)
    by_test false e = omega arith

place_low : (pattern : ℕ) → place_of pattern ≤ 80
place_low pattern = by_exponent (pattern / 8388608 % 256) (omega arith)
  where
    by_exponent : (e : ℕ) → e < 256 → 4 + e * 1233 / 4096 ≤ 80
    by_exponent e lt = omega (arith, lt)

short_small : (r : Real) → IsSmall (short_decimal r)
short_small r =
    let x = float_with_sign false (number r) in
    shortened_small (first_digits x (place_of r.pattern)) x (record { digits = held_few (digits_at x (place_of r.pattern)); place = place_low r.pattern })

-- ---- the whole

decimal_so : (d : Decimal) → IsSmall d → IsLiteralText 30 (decimal_text d)
decimal_so d is =
    let p = is.digits in
    digits_so (printed d.digits) d.place (printed_text 14 d.digits (omega arith) (omega (arith, p)) (omega (arith, p))) is.place

plain_so : (r : Real) → IsLiteralText 31 (plain_text r)
plain_so r =
    let negative = is_sign_negative (number r) in
    let d = short_decimal r in
    either 31 (nat_eq r.pattern 0) (codes "0.0") (minus_text negative ++ decimal_text d) (record { bytes = refl; short = omega arith })
    (joined 1 30 (minus_text negative) (decimal_text d)
    (either 1 negative (codes "-") [] (record { bytes = refl; short = omega arith }) (record { bytes = refl; short = omega arith }))
    (decimal_so d (short_small r)))

pattern_so : (r : Real) → IsLiteralText 11 (pattern_text r)
pattern_so r =
    let small = real_small r in
    joined 1 10 (codes "P") (printed r.pattern) (record { bytes = refl; short = omega arith }) (printed_text 10 r.pattern (omega arith) (omega (arith, small)) (omega (arith, small)))

pub real_so : (r : Real) → IsLiteralText 31 (real_text r)
real_so r =
    either 31 (is_found r (real_literal (plain_text r))) (plain_text r) (pattern_text r) (plain_so r)
    (wider 11 31 (pattern_text r) (pattern_so r) (omega arith))
