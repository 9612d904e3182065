-- Names under instances.
use Rattle.std.specs.Prelude.{◌≡◌, ℕ, false, List}
use Rattle.il_model.specs.Words.{has_dot, under}

-- a name as a unit declares it: without a dot
abbrev pub IsPart : List ℕ → Type 0
IsPart name = has_dot name ≡ false

-- where under two fronts of one part each the same name stands, the fronts are the same, and so is what stands behind
abbrev pub TellsApart : Type 0
TellsApart = (f g a b : List ℕ) → IsPart f → IsPart g → under f a ≡ under g b → (f ≡ g) × (a ≡ b)
