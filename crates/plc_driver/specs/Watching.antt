-- What an operator is told while a controller is served.
use Rattle.std.specs.Prelude.{◌≡◌, ℕ, ◌-◌, nat_eq, nat_le, not, Bool, true, false, if◌then◌else◌, Option, Some, None}
use Rattle.plc_status.specs.declared.journal.Journal.{Journal}
use Rattle.plc_status.specs.declared.notice.Notice.{Notice}
use Rattle.plc_status.specs.declared.notice.Notice.TheVariants as notices
use Rattle.plc_status.specs.Journal.{IsPut}

-- for so long, in nanoseconds, a replica may not be normal before that is told
abbrev pub patience : ℕ
patience = 1_000_000_000

-- since when a replica hasn't been normal, by what it shows now
abbrev pub lapsed_since : Option ℕ → Bool → ℕ → Option ℕ
lapsed_since since true now = None
lapsed_since None false now = Some now
lapsed_since (Some since) false now = Some since

-- whether a group is lost, by how long it may be without a majority, and since when it is
abbrev pub is_lost : ℕ → Option ℕ → ℕ → Bool
is_lost longest None now = false
is_lost longest (Some since) now = nat_le longest (now - since)

-- what is to be told of a replica, by whether it was told down, and since when it hasn't been normal: that it's normal
-- again, or that it's down
abbrev pub change : Bool → Option ℕ → ℕ → Option Bool
change true None now = Some true
change true (Some since) now = None
change false None now = None
change false (Some since) now = if nat_le patience (now - since) then Some false else None

-- what is told of a replica by that: that it's normal again, or that it's down
abbrev pub turned : ℕ → Bool → Notice
turned number true = notices.Normal number
turned number false = notices.Down number

-- It was noted where something is to be told, and else nothing was.
abbrev pub IsTurnNoted : ℕ → Option Bool → Journal → Journal → Type 0
IsTurnNoted number None old new = new ≡ old
IsTurnNoted number (Some is_normal) old new = IsPut (turned number is_normal) old new

-- at which try to start a replica its store failed, if it did
abbrev pub failed_at : Bool → ℕ → Option ℕ
failed_at false tries = None
failed_at true tries = Some tries

-- whether a store failed, and that wasn't told of the same try
abbrev pub is_failure_new : Option ℕ → Option ℕ → Bool
is_failure_new told None = false
is_failure_new None (Some tries) = true
is_failure_new (Some at) (Some tries) = not (nat_eq at tries)

-- It was noted where the store failed and that wasn't told, and else nothing was.
abbrev pub IsFailureNoted : ℕ → Bool → Journal → Journal → Type 0
IsFailureNoted number false old new = new ≡ old
IsFailureNoted number true old new = IsPut (notices.Store number) old new

-- It was noted where there are more of a replica's messages that have no frame, and else nothing was.
abbrev pub AreFramesNoted : ℕ → Bool → Journal → Journal → Type 0
AreFramesNoted number false old new = new ≡ old
AreFramesNoted number true old new = IsPut (notices.NoFrame number) old new
