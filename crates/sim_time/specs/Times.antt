-- When something is to happen.
use Rattle.std.specs.Prelude.{◌≡◌, ℕ, true}
use Rattle.std.specs.declared.cmp.Ordering.{Ordering}
use Rattle.std.specs.Ordering.{is_lt, nat_cmp, ordering_then}

-- by its time, and of one time by its number
abbrev pub due_cmp : ℕ × ℕ → ℕ × ℕ → Ordering
due_cmp due other = ordering_then (nat_cmp due.0 other.0) (nat_cmp due.1 other.1)

-- it comes later, or at the same time and was put in later
abbrev pub IsBehind : ℕ × ℕ → ℕ × ℕ → Type 0
IsBehind next other = is_lt (due_cmp next other) ≡ true
