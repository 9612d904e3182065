-- What is taken of a snapshot that was left.
use Rattle.std.specs.Prelude.{ℕ, Option, Some, None, nat_le, if◌then◌else◌}
use Rattle.il_model.specs.Snapshots.{SavedController}
use Rattle.plc_sight.specs.declared.board.Left.{Left}

-- it, where so many wishes were before it was taken: then nothing is left; else it stays
abbrev pub taken : Option Left → ℕ → Option SavedController × Option Left
taken None wishes = (None, None)
taken (Some left) wishes =
    if nat_le wishes left.wishes then (Some left.snapshot, None) else (None, Some left)
