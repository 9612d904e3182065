-- Places that have no cell in common.
use Rattle.std.proofs.Common.{◌≡◌, ℕ, ◌+◌, Bool, true, false, List, [], ◌∷◌, ◌++◌, refl, sym, ◌∙◌, ap, arith}
use Rattle.std.specs.Prelude.{◌&&◌, ◌||◌, not, nat_le, nat_lt}
use Rattle.std.specs.List.{list_all}
use Rattle.std.proofs.lemmas.Bool.Decides.{nat_tests}
use Rattle.field_map.specs.declared.places.Kind.{Kind}
use Rattle.field_map.specs.declared.places.Kind.TheVariants.{Bits, Words}
use Rattle.field_map.specs.declared.places.Places.{Places}
use Rattle.field_map.specs.declared.reading.Reading.{Reading}
use Rattle.field_map.specs.Areas.{is_one_kind}
use Rattle.field_map.specs.Filled.{are_apart, is_in, is_in_any, is_read, are_all_apart}
use Rattle.field_map.specs.Field.{places_read}

-- both hold
pub and_first : (a b : Bool) → (a && b) ≡ true → a ≡ true
and_first true b e = refl
and_first false b e = absurd cc

pub and_second : (a b : Bool) → (a && b) ≡ true → b ≡ true
and_second true b e = e
and_second false b e = absurd cc

pub and_both : (a b : Bool) → a ≡ true → b ≡ true → (a && b) ≡ true
and_both true b e f = f
and_both false b e f = absurd cc

pub and_swap : (a b c d : Bool) → ((a && b) && (c && d)) ≡ ((a && c) && (b && d))
and_swap true b true d = refl
and_swap true true false d = refl
and_swap true false false d = refl
and_swap false b c d = refl

-- numbers that lie in one of two ranges that are apart
in_one_range : (a m b k n : ℕ) → (nat_le (a + m) b || nat_le (b + k) a) ≡ true → (nat_le a n && nat_lt n (a + m)) ≡ true
    → (nat_le b n && nat_lt n (b + k)) ≡ false
in_one_range a m b k n e h = grind (arith, nat_tests)

-- one and no other, of kinds and ranges
in_one : (p q kind : Kind) (a m b k n : ℕ) → (not (is_one_kind p q) || (nat_le (a + m) b || nat_le (b + k) a)) ≡ true
    → (is_one_kind p kind && (nat_le a n && nat_lt n (a + m))) ≡ true
    → (is_one_kind q kind && (nat_le b n && nat_lt n (b + k))) ≡ false
in_one Bits Bits Bits a m b k n e h = in_one_range a m b k n e h
in_one Words Words Words a m b k n e h = in_one_range a m b k n e h
in_one Bits Bits Words a m b k n e h = absurd cc
in_one Words Words Bits a m b k n e h = absurd cc
in_one Bits Words Bits a m b k n e h = refl
in_one Words Bits Words a m b k n e h = refl
in_one Bits Words Words a m b k n e h = absurd cc
in_one Words Bits Bits a m b k n e h = absurd cc

-- a cell is in one of two places that are apart, and not in the other
pub in_one_place : (p q : Places) (kind : Kind) (n : ℕ) → are_apart p q ≡ true → is_in p kind n ≡ true
    → is_in q kind n ≡ false
in_one_place p q kind n e h = in_one p.kind q.kind kind p.from p.count q.from q.count n e h

or_false : (a b : Bool) → a ≡ false → b ≡ false → (a || b) ≡ false
or_false false b e f = f
or_false true b e f = absurd cc

pub none_of_others : (p : Places) (qs : List Places) (kind : Kind) (n : ℕ) → list_all (are_apart p) qs ≡ true
    → is_in p kind n ≡ true → is_in_any qs kind n ≡ false
none_of_others p [] kind n e h = refl
none_of_others p (q ∷ qs) kind n e h =
    or_false (is_in q kind n) (is_in_any qs kind n) (in_one_place p q kind n (and_first (are_apart p q) (list_all (are_apart p) qs) e) h)
    (none_of_others p qs kind n (and_second (are_apart p q) (list_all (are_apart p) qs) e) h)

pub list_all-append : (p : Places → Bool) (xs ys : List Places) → list_all p (xs ++ ys) ≡ (list_all p xs && list_all p ys)
list_all-append p [] ys = refl
list_all-append p (x ∷ xs) ys = ap (λ b. p x && b) (list_all-append p xs ys) ∙ and_assoc (p x) (list_all p xs) (list_all p ys)
  where
    and_assoc : (a b c : Bool) → (a && (b && c)) ≡ ((a && b) && c)
    and_assoc true b c = refl
    and_assoc false b c = refl

-- those behind are apart
pub apart_behind : (xs ys : List Places) → are_all_apart (xs ++ ys) ≡ true → are_all_apart ys ≡ true
apart_behind [] ys e = e
apart_behind (x ∷ xs) ys e =
    apart_behind xs ys (and_second (list_all (are_apart x) (xs ++ ys)) (are_all_apart (xs ++ ys)) e)

or_true : (a b : Bool) → (a || b) ≡ true → a ≡ false → b ≡ true
or_true true b e f = absurd cc
or_true false b e f = e

pub bool_cases : (P : Type 0) (b : Bool) → (b ≡ true → P) → (b ≡ false → P) → P
bool_cases P true f g = f refl
bool_cases P false f g = g refl

-- a cell of the ones in front is none of those behind
pub in_front_alone : (xs ys : List Places) (kind : Kind) (n : ℕ) → are_all_apart (xs ++ ys) ≡ true
    → is_in_any xs kind n ≡ true → is_in_any ys kind n ≡ false
in_front_alone [] ys kind n e h = absurd cc
in_front_alone (x ∷ xs) ys kind n e h =
    bool_cases (is_in_any ys kind n ≡ false) (is_in x kind n)
    (λ here. none_of_others x ys kind n (and_second (list_all (are_apart x) xs) (list_all (are_apart x) ys)
    (sym (list_all-append (are_apart x) xs ys) ∙ and_first (list_all (are_apart x) (xs ++ ys)) (are_all_apart (xs ++ ys)) e)) here)
    (λ there. in_front_alone xs ys kind n (and_second (list_all (are_apart x) (xs ++ ys)) (are_all_apart (xs ++ ys)) e)
    (or_true (is_in x kind n) (is_in_any xs kind n) h there))

or_assoc : (a b c : Bool) → ((a || b) || c) ≡ (a || (b || c))
or_assoc true b c = refl
or_assoc false b c = refl

pub is_in_any-append : (xs ys : List Places) (kind : Kind) (n : ℕ)
    → is_in_any (xs ++ ys) kind n ≡ (is_in_any xs kind n || is_in_any ys kind n)
is_in_any-append [] ys kind n = refl
is_in_any-append (x ∷ xs) ys kind n =
    ap (λ b. is_in x kind n || b) (is_in_any-append xs ys kind n)
    ∙ sym (or_assoc (is_in x kind n) (is_in_any xs kind n) (is_in_any ys kind n))

-- the places of readings have the cells that are read
pub is_in_any-read : (rs : List Reading) (kind : Kind) (n : ℕ) → is_in_any (places_read rs) kind n ≡ is_read rs kind n
is_in_any-read [] kind n = refl
is_in_any-read (r ∷ rs) kind n = ap (λ b. is_in r.places kind n || b) (is_in_any-read rs kind n)

-- one more, apart from each
pub apart_with : (xs : List Places) (y : Places) → are_all_apart xs ≡ true → list_all (λ x. are_apart x y) xs ≡ true
    → are_all_apart (xs ++ y ∷ []) ≡ true
apart_with [] y e h = refl
apart_with (x ∷ xs) y e h =
    and_both (list_all (are_apart x) (xs ++ y ∷ [])) (are_all_apart (xs ++ y ∷ []))
    (list_all-append (are_apart x) xs (y ∷ []) ∙ and_both (list_all (are_apart x) xs) (are_apart x y && true)
    (and_first (list_all (are_apart x) xs) (are_all_apart xs) e)
    (and_both (are_apart x y) true (and_first (are_apart x y) (list_all (λ x. are_apart x y) xs) h) refl))
    (apart_with xs y (and_second (list_all (are_apart x) xs) (are_all_apart xs) e)
    (and_second (are_apart x y) (list_all (λ x. are_apart x y) xs) h))
