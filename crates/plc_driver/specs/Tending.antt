-- When a replica crashes on purpose, and when one is started anew.
use Rattle.std.specs.Prelude.{ℕ, ◌+◌, ◌*◌, min, nat_le, nat_lt, ◌&&◌, ◌||◌, not, Bool, false, if◌then◌else◌, Option}
use Rattle.std.specs.Prelude.{Some, None}
use Rattle.std.specs.Duration.{max_nanos}
use Rattle.vr_shown.specs.declared.shown.Shown.{Shown}

-- whether one crashes behind a release: by each how many releases, how many there were since the last crash with this
-- one, and whether the replica that was restarted last is normal again
abbrev pub crashes_now : Option ℕ → ℕ → Bool → Bool
crashes_now None releases is_over = false
crashes_now (Some every) releases is_over = nat_le every releases && is_over

-- the replica behind this one, in turn, of so many
abbrev pub turn_behind : ℕ → ℕ → ℕ
turn_behind size number = if nat_lt (number + 1) size then number + 1 else 0

-- in nanoseconds: how long after that was needed a replica is started anew
abbrev pub first_pause : ℕ
first_pause = 5_000_000_000

-- how long it then is from the end of a start to the next one, behind a pause: twice as long, up to a minute
abbrev pub pause_behind : ℕ → ℕ
pause_behind pause = min (pause * 2) 60_000_000_000

-- whether a replica is started now, by when that is due; while a start is under way nothing is due
abbrev pub starts_now : Option ℕ → ℕ → Bool
starts_now None now = false
starts_now (Some due) now = nat_le due now

-- when it is due after a look at which it isn't started: as it was; or, where a start has come to its end since, a
-- pause from now, but no later than the longest time that is told
abbrev pub due_then : ℕ → Option ℕ → ℕ → ℕ
due_then pause None now = min (now + pause) max_nanos
due_then pause (Some due) now = due

-- a replica that nothing is done for, or whose store failed, is to be started anew
abbrev pub needs_start : Shown → Bool
needs_start shown = shown.has_failed || not shown.is_served
