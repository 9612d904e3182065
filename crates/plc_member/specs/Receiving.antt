-- When the thread of a replica hangs, and what is told of that.
use Rattle.std.specs.Prelude.{Bool, true, false, not, ◌&&◌, ℕ, ◌-◌, ◌==◌, nat_le, Option, Some, None}
use Rattle.std.specs.Prelude.{if◌then◌else◌}
use Rattle.std.specs.Duration.{as_nanos}
use Rattle.std.specs.declared.time.Duration.{Duration}
use Rattle.plc_status.specs.declared.notice.Notice.{Notice}
use Rattle.plc_status.specs.declared.notice.Notice.TheVariants as notices
use Rattle.plc_member.specs.declared.receiving.Receives.{Receives}

abbrev pub since_by : Option Duration → Bool → Duration → Duration
since_by None is_same now = now
since_by (Some since) is_same now = if is_same then since else now

-- when so many receives were seen first: now, unless there were that many at the last look
abbrev pub since_after : Receives → ℕ → Duration → Duration
since_after receives count now = since_by receives.since (receives.count == count) now

-- a thread that comes to no receive for 3 s hangs
abbrev pub hangs : Duration → Duration → Bool
hangs since now = nat_le 3_000_000_000 (as_nanos now - as_nanos since)

-- it's told where that turned
abbrev pub hang_notice : Bool → Bool → ℕ → Option Notice
hang_notice hung is number = if is && not hung then Some (notices.Hangs number) else None
