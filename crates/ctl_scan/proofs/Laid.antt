-- Laying forces over cells, one cell at a time.
use Rattle.std.proofs.Common.{◌≡◌, ℕ, zero, suc, ◌<◌, List, [], ◌∷◌, length, take, get_or, set, Option, Some, None, refl, ap, arith}
use Rattle.std.specs.Prelude.{unwrap_or}
use Rattle.ctl_model.specs.Forces.{overlay}

pub laid_none : {A : Type 0} (fs : List (Option A)) (i : ℕ) (xs : List A) (d : Option A) → i < length fs → get_or fs i d ≡ None → overlay (take (suc i) fs) xs ≡ overlay (take i fs) xs
laid_none [] zero xs d lt h = absurd (omega (arith, lt))
laid_none [] (suc i) xs d lt h = absurd (omega (arith, lt))
laid_none (f ∷ fs) zero [] d lt h = refl
laid_none (Some b ∷ fs) zero (x ∷ xs) d lt h = absurd cc
laid_none (None ∷ fs) zero (x ∷ xs) d lt h = refl
laid_none (f ∷ fs) (suc i) [] d lt h = refl
laid_none (f ∷ fs) (suc i) (x ∷ xs) d lt h = ap (λ ys. unwrap_or f x ∷ ys) (laid_none fs i xs d (omega (arith, lt)) h)

pub laid_some : {A : Type 0} (fs : List (Option A)) (i : ℕ) (xs : List A) (b : A) (d : Option A) → i < length fs → get_or fs i d ≡ Some b → overlay (take (suc i) fs) xs ≡ set (overlay (take i fs) xs) i b
laid_some [] zero xs b d lt h = absurd (omega (arith, lt))
laid_some [] (suc i) xs b d lt h = absurd (omega (arith, lt))
laid_some (f ∷ fs) zero [] b d lt h = refl
laid_some (Some c ∷ fs) zero (x ∷ xs) b d lt h = let e : c ≡ b = cc in ap (λ y. y ∷ xs) e
laid_some (None ∷ fs) zero (x ∷ xs) b d lt h = absurd cc
laid_some (f ∷ fs) (suc i) [] b d lt h = refl
laid_some (f ∷ fs) (suc i) (x ∷ xs) b d lt h = ap (λ ys. unwrap_or f x ∷ ys) (laid_some fs i xs b d (omega (arith, lt)) h)
