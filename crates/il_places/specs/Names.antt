-- The full names of instances.
use Rattle.std.specs.Prelude.{ℕ, List, Bool, length, ◌==◌, if◌then◌else◌}
use Rattle.il_model.specs.Words.{under}

-- these bytes are no name
abbrev pub is_none : List ℕ → Bool
is_none name = length name == 0

-- a name under another one, where both are some: M7 and LATE are M7.LATE
abbrev pub in_front : List ℕ → List ℕ → List ℕ
in_front front name =
    if is_none front then name else (if is_none name then front else under front name)
