-- Lists that rise, one item further on.
use Rattle.std.proofs.Common.{◌≡◌, ℕ, zero, suc, ◌+◌, ◌<◌, ◌≤◌, Bool, true, List, [], ◌∷◌, length, drop, get_or, refl, ap, subst, ◌∙◌, arith}
use Rattle.std.proofs.lemmas.Bool.{le-leb}
use Rattle.ctl_model.proofs.Rising.{rise_from}

plus_one : (n : ℕ) → n + 1 ≡ suc n
plus_one n = omega arith

module _ {A : Type 0} (key : A → ℕ) (test : A → Bool) where
  first_passes : (least : ℕ) (x : A) (xs : List A) → least ≤ key x → test x ≡ true → rise_from key test (suc (key x)) xs ≡ rise_from key test least (x ∷ xs)
  first_passes least x xs low passes = rw (le-leb least (key x) low, passes) refl

  passes_at : (xs : List A) (i least : ℕ) (x : A) → i < length xs → x ≡ get_or xs i x → least ≤ key x → test x ≡ true → rise_from key test (suc (key x)) (drop (suc i) xs) ≡ rise_from key test least (drop i xs)
  passes_at [] i least x lt at low passes = absurd (omega (arith, lt))
  passes_at (y ∷ ys) zero least x lt at low passes = subst (λ (z : A). rise_from key test (suc (key x)) ys ≡ rise_from key test least (z ∷ ys)) at (first_passes least x ys low passes)
  passes_at (y ∷ ys) (suc i) least x lt at low passes = passes_at ys i least x (omega (arith, lt)) at low passes

  -- an item at the bound or above that passes leaves the others to be judged from behind it
  pub one_further : (xs : List A) (i least : ℕ) (x : A) → i < length xs → x ≡ get_or xs i x → least ≤ key x → test x ≡ true → rise_from key test (key x + 1) (drop (i + 1) xs) ≡ rise_from key test least (drop i xs)
  one_further xs i least x lt at low passes =
      ap (λ (n : ℕ). rise_from key test n (drop (i + 1) xs)) (plus_one (key x))
      ∙ (ap (λ (n : ℕ). rise_from key test (suc (key x)) (drop n xs)) (plus_one i) ∙ passes_at xs i least x lt at low passes)
