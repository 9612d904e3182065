-- Which places of %I are filled, and that none is filled twice.
use Rattle.std.specs.Prelude.{◌+◌, Bool, not, ◌||◌, nat_le, List, [], ◌∷◌, Option, Some, None, ◌≡◌, ℕ, ◌==◌}
use Rattle.std.specs.Prelude.{true, false, ◌&&◌, nat_lt}
use Rattle.std.specs.List.{list_any, list_all}
use Rattle.field_map.specs.declared.places.Places.{Places}
use Rattle.field_map.specs.declared.reading.Reading.{Reading}
use Rattle.field_map.specs.declared.places.Kind.{Kind}
use Rattle.field_map.specs.Areas.{is_one_kind}

-- ---- places that have no cell in common

-- of two kinds, or one lies before the other
abbrev pub are_apart : Places → Places → Bool
are_apart p q = not (is_one_kind p.kind q.kind) || (nat_le (p.from + p.count) q.from || nat_le (q.from + q.count) p.from)

-- ---- which places are filled

-- the cell of this kind and number is one of them
abbrev pub is_in : Places → Kind → ℕ → Bool
is_in p kind n = is_one_kind p.kind kind && (nat_le p.from n && nat_lt n (p.from + p.count))

abbrev pub is_in_some : Option Places → Kind → ℕ → Bool
is_in_some None kind n = false
is_in_some (Some p) kind n = is_in p kind n

-- how many cells they are
abbrev pub count_of : Option Places → ℕ
count_of None = 0
count_of (Some p) = p.count

-- the cell is one of those that a reading fills
abbrev pub is_read : List Reading → Kind → ℕ → Bool
is_read readings kind n = list_any (λ r. is_in r.places kind n) readings

-- these places are those that the readings fill, and no others
abbrev pub AreFilled : Option Places → List Reading → Type 0
AreFilled places readings = (kind : Kind) (n : ℕ) → is_in_some places kind n ≡ is_read readings kind n

-- of the same kind, and the next ones
abbrev pub does_follow : Option Places → Places → Bool
does_follow None next = true
does_follow (Some p) next = is_one_kind p.kind next.kind && (p.from + p.count == next.from)

-- the cell is one of these
abbrev pub is_in_any : List Places → Kind → ℕ → Bool
is_in_any places kind n = list_any (λ p. is_in p kind n) places

-- no two of them have a cell in common
abbrev pub are_all_apart : List Places → Bool
are_all_apart [] = true
are_all_apart (p ∷ ps) = list_all (are_apart p) ps && are_all_apart ps
