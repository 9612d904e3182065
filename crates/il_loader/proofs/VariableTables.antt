-- Tables of variables, and one variable more.
use Rattle.std.proofs.Common.{◌≡◌, ℕ, ◌<◌, Bool, List, [], ◌∷◌, length, Option, Some, None, sym, arith}
use Rattle.std.specs.Prelude.{IfSome, ◌^◌}
use Rattle.std.specs.List.{position}
use Rattle.std.proofs.lemmas.List.Quantifiers.{position-Some}

pub small_number : {X : Type 0} (p : X → Bool) (found : List X) (o : Option ℕ) → o ≡ position p found → length found < 2 ^ 63 → IfSome o (λ k. k < 2 ^ 63)
small_number p found None e lt = tt
small_number p [] (Some k) e lt = absurd cc
small_number p (x ∷ found) (Some k) e lt = let r = position-Some p (x ∷ found) k x (sym e) in omega (arith, r.0)
