-- What a replica judges by a few numbers: whether a view is later than its own, and whether it's told enough to recover.
use Rattle.std.specs.Prelude.{ℕ, Bool, ◌+◌, ◌==◌, ◌&&◌, ◌||◌, nat_lt, nat_le}
use Rattle.vr_model.specs.Replicas.{Status, takes_part, is_view_change}

-- of one that takes part: a later view than its own, or its own that has not begun
abbrev pub behind_in : Status → ℕ → ℕ → Bool
behind_in status own view = takes_part status && (nat_lt own view || is_view_change status && (own == view))

-- f+1 have answered, and the latest view among them is no earlier than the stored one
abbrev pub told_enough : ℕ → ℕ → ℕ → ℕ → Bool
told_enough f answers stored view = nat_le (f + 1) answers && nat_le stored view
