-- A word in either case.
use Rattle.std.specs.Prelude.{ℕ, ◌-◌, List, [], ◌∷◌, Bool, true, false, ◌&&◌, ◌==◌, nat_le, if◌then◌else◌}

-- a byte, a small letter as its capital one
abbrev pub upper : ℕ → ℕ
upper b = if nat_le 97 b && nat_le b 122 then b - 32 else b

-- a word in capital letters, spelled in either case
unfoldable pub spells : List ℕ → List ℕ → Bool
spells [] [] = true
spells [] (b ∷ bs) = false
spells (k ∷ ks) [] = false
spells (k ∷ ks) (b ∷ bs) = upper b == k && spells ks bs
