-- Whether a machine hears a majority of its group, and what an operator is told where it waits for something.
use Rattle.std.specs.Prelude.{Bool, true, false, not, ◌&&◌, ℕ, ◌/◌, ◌-◌, nat_lt, nat_le, if◌then◌else◌}
use Rattle.std.specs.Prelude.{Option, Some, None}
use Rattle.std.specs.Option.{unwrap_or}
use Rattle.std.specs.Duration.{as_nanos}
use Rattle.std.specs.declared.time.Duration.{Duration}
use Rattle.plc_status.specs.declared.notice.Notice.{Notice}
use Rattle.plc_status.specs.declared.notice.Notice.TheVariants as notices
use Rattle.plc_status.specs.declared.group.GroupNotice.TheVariants as of_group

-- ---- a majority

-- Since when fewer than half of the others are heard, if they are now: with the machine itself no more than half of the
-- group.
abbrev pub lacking_after : Option Duration → ℕ → ℕ → Duration → Option Duration
lacking_after lacking heard others now = if nat_lt heard (others / 2) then Some (unwrap_or lacking now) else None

-- that has been so for 3 s
abbrev pub is_missing : Option Duration → Duration → Bool
is_missing None now = false
is_missing (Some lacking) now = nat_le 3_000_000_000 (as_nanos now - as_nanos lacking)

-- it's told where that turned: by whether a majority was missing before, and is now
abbrev pub majority_notice : Bool → Bool → ℕ → ℕ → Option Notice
majority_notice false true heard others = Some (notices.Group (of_group.NoMajority heard others))
majority_notice true false heard others = Some (notices.Group of_group.Majority)
majority_notice false false heard others = None
majority_notice true true heard others = None

-- ---- an operator

-- A machine that doesn't begin anew by itself waits for its operator: its replica recovers, and those of f others did
-- just now, so that too few are left that know what was.
abbrev pub waits_by_hand : Bool → Bool → Bool → Bool
waits_by_hand is_automatic recovers others_recover = not is_automatic && (recovers && others_recover)

-- it's told once, of a group of so many others
abbrev pub by_hand_notice : Bool → Bool → ℕ → Option Notice
by_hand_notice is_told waits others =
    if waits && not is_told then Some (notices.Group (of_group.ByHand (others / 2))) else None
