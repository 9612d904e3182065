-- A text whose front is a word of one sort of bytes.
use Rattle.std.proofs.Common.{◌≡◌, ℕ, suc, ◌+◌, Bool, true, false, List, [], ◌∷◌, ◌++◌, length, refl, arith, ◌&&◌, not}
use Rattle.std.specs.List.{list_all, prefix_len}

pub both_true : (a b : Bool) → (a && b) ≡ true → (a ≡ true) × (b ≡ true)
both_true true b e = (refl, e)
both_true false b e = absurd cc

pub not_true : (b : Bool) → not b ≡ true → b ≡ false
not_true true e = absurd cc
not_true false e = refl

-- whether the first byte passes
abbrev pub begins : (ℕ → Bool) → List ℕ → Bool
begins p [] = false
begins p (b ∷ bs) = p b

pub prefix_whole : (p : ℕ → Bool) (xs ys : List ℕ) → list_all p xs ≡ true → begins p ys ≡ false → prefix_len p (xs ++ ys) ≡ length xs
prefix_whole p [] [] all stop = refl
prefix_whole p [] (y ∷ ys) all stop = rw stop refl
prefix_whole p (x ∷ xs) ys all stop =
    let h = both_true (p x) (list_all p xs) all in
    let e : 1 + length xs ≡ suc (length xs) = omega arith in
    rw (h.0, prefix_whole p xs ys h.1 stop) e

pub all_weaker : (p q : ℕ → Bool) → ((b : ℕ) → p b ≡ true → q b ≡ true) → (xs : List ℕ) → list_all p xs ≡ true → list_all q xs ≡ true
all_weaker p q weaker [] all = refl
all_weaker p q weaker (x ∷ xs) all =
    let h = both_true (p x) (list_all p xs) all in
    rw (weaker x h.0, all_weaker p q weaker xs h.1) refl

pub all_both : (p : ℕ → Bool) (xs ys : List ℕ) → list_all p xs ≡ true → list_all p ys ≡ true → list_all p (xs ++ ys) ≡ true
all_both p [] ys all more = more
all_both p (x ∷ xs) ys all more =
    let h = both_true (p x) (list_all p xs) all in
    rw (h.0, all_both p xs ys h.1 more) refl
