-- Lists: what stands where, how many pass a test, and lengths that a count gives.
use Rattle.std.proofs.Common.{◌≡◌, ℕ, zero, suc, ◌+◌, ◌-◌, ◌<◌, ◌≤◌, Bool, true, false, cond, not, List, [], ◌∷◌, ◌++◌, length, take, drop, map, Some, arith, refl, ap, ◌∙◌}
use Rattle.std.specs.Prelude.{slice_get}
use Rattle.std.specs.List.{count_by, after_last, prefix_len, suffix_len}
use Rattle.std.proofs.lemmas.List.{length-append, drop-append-le, drop_all, reverse-append}
use Rattle.std.proofs.lemmas.List.Sums.{sum_by_push, suffix_len-le-length}
use Rattle.std.proofs.lemmas.Option.{same_Some}

-- ---- what stands where

pub get_take : {X : Type 0} (xs : List X) (p q : ℕ) → p < q → slice_get (take q xs) p ≡ slice_get xs p
get_take xs p zero l = absurd (omega (arith, l))
get_take [] p (suc q) l = refl
get_take (x ∷ xs) zero (suc q) l = refl
get_take (x ∷ xs) (suc p) (suc q) l = get_take xs p q (omega (arith, l))

pub get_taken : {X : Type 0} (xs : List X) (p q : ℕ) (x : X) → slice_get (take q xs) p ≡ Some x → slice_get xs p ≡ Some x
get_taken xs p zero x e = absurd cc
get_taken [] p (suc q) x e = absurd cc
get_taken (y ∷ xs) zero (suc q) x e = e
get_taken (y ∷ xs) (suc p) (suc q) x e = get_taken xs p q x e

pub length_take : {X : Type 0} (n : ℕ) (xs : List X) → n ≤ length xs → length (take n xs) ≡ n
length_take zero xs l = refl
length_take (suc n) [] l = absurd (omega (arith, l))
length_take (suc n) (x ∷ xs) l = ap (λ k. suc k) (length_take n xs (omega (arith, l)))

pub take_take : {X : Type 0} (p q : ℕ) (xs : List X) → p ≤ q → take p (take q xs) ≡ take p xs
take_take zero q xs l = refl
take_take (suc p) zero xs l = absurd (omega (arith, l))
take_take (suc p) (suc q) [] l = refl
take_take (suc p) (suc q) (x ∷ xs) l = ap (λ ys. x ∷ ys) (take_take p q xs (omega (arith, l)))

pub record IsMadeOf {X Y : Type 0} (f : X → Y) (xs : List X) (k : ℕ) (y : Y) : Type 0 where
  pub from : X
  pub at : slice_get xs k ≡ Some from
  pub is : f from ≡ y

pub made_of : {X Y : Type 0} (f : X → Y) (xs : List X) (k : ℕ) (y : Y) → slice_get (map f xs) k ≡ Some y → IsMadeOf f xs k y
made_of f [] zero y e = absurd cc
made_of f [] (suc k) y e = absurd cc
made_of f (x ∷ xs) zero y e = record { from = x; at = refl; is = same_Some (f x) y e }
made_of f (x ∷ xs) (suc k) y e = let m = made_of f xs k y e in record { from = m.from; at = m.at; is = m.is }

pub map_at : {X Y : Type 0} (f : X → Y) (xs : List X) (k : ℕ) (x : X) → slice_get xs k ≡ Some x → slice_get (map f xs) k ≡ Some (f x)
map_at f [] zero x e = absurd cc
map_at f [] (suc k) x e = absurd cc
map_at f (y ∷ xs) zero x e = ap (λ z. Some (f z)) (same_Some y x e)
map_at f (y ∷ xs) (suc k) x e = map_at f xs k x e

-- ---- one more behind them

pub count-one_more : {X : Type 0} (p : X → Bool) (xs : List X) (x : X) → count_by p (xs ++ x ∷ []) ≡ count_by p xs + cond (p x) 1 0
count-one_more p xs x = sum_by_push (λ y. cond (p y) 1 0) xs x

suffix-one_more : {X : Type 0} (p : X → Bool) (xs : List X) (x : X) → suffix_len p (xs ++ x ∷ []) ≡ cond (p x) (1 + suffix_len p xs) 0
suffix-one_more p xs x = ap (prefix_len p) (reverse-append xs (x ∷ []))

pub after-one_more : {X : Type 0} (p : X → Bool) (xs : List X) (x : X) → after_last p (xs ++ x ∷ []) ≡ cond (p x) [] (after_last p xs ++ x ∷ [])
after-one_more p xs x = go (p x) (suffix-one_more (λ y. not (p y)) xs x)
  where
    go : (b : Bool) → suffix_len (λ y. not (p y)) (xs ++ x ∷ []) ≡ cond (not b) (1 + suffix_len (λ y. not (p y)) xs) 0 → after_last p (xs ++ x ∷ []) ≡ cond b [] (after_last p xs ++ x ∷ [])
    go true e = drop_all (length (xs ++ x ∷ []) - suffix_len (λ y. not (p y)) (xs ++ x ∷ [])) (xs ++ x ∷ []) (omega arith)
    go false e =
        let size : length (xs ++ x ∷ []) ≡ length xs + 1 = length-append xs (x ∷ []) in
        let low : suffix_len (λ y. not (p y)) xs ≤ length xs = suffix_len-le-length (λ y. not (p y)) xs in
        let k : length (xs ++ x ∷ []) - suffix_len (λ y. not (p y)) (xs ++ x ∷ []) ≡ length xs - suffix_len (λ y. not (p y)) xs = omega arith in
        ap (λ n. drop n (xs ++ x ∷ [])) k ∙ drop-append-le (length xs - suffix_len (λ y. not (p y)) xs) xs (x ∷ []) (omega arith)

-- ---- the first so many numbers that a function gives

abbrev pub firsts : (ℕ → ℕ) → ℕ → List ℕ
firsts had zero = []
firsts had (suc n) = had 0 ∷ firsts (λ e. had (suc e)) n

pub length_firsts : (had : ℕ → ℕ) (n : ℕ) → length (firsts had n) ≡ n
length_firsts had zero = refl
length_firsts had (suc n) = ap (λ k. suc k) (length_firsts (λ e. had (suc e)) n)

pub firsts_at : (had : ℕ → ℕ) (n k : ℕ) → k < n → slice_get (firsts had n) k ≡ Some (had k)
firsts_at had zero k l = absurd (omega (arith, l))
firsts_at had (suc n) zero l = refl
firsts_at had (suc n) (suc k) l = firsts_at (λ e. had (suc e)) n k (omega (arith, l))

pub firsts_is : (had : ℕ → ℕ) (n k x : ℕ) → slice_get (firsts had n) k ≡ Some x → (had k ≡ x) × (k < n)
firsts_is had zero k x e = absurd cc
firsts_is had (suc n) zero x e = (same_Some (had 0) x e, omega arith)
firsts_is had (suc n) (suc k) x e = let r = firsts_is (λ i. had (suc i)) n k x e in (r.0, omega (arith, r.1))
