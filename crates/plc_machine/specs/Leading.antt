-- When a machine leads, and by which times it goes then. Times are in nanoseconds since a beginning of the machine's own.
use Rattle.std.specs.Prelude.{◌≡◌, ℕ, ◌+◌, ◌-◌, ◌/◌, ◌^◌, ◌==◌, Bool, not, ◌&&◌, min, max, MatchBool, nat_lt}
use Rattle.std.specs.Prelude.{Option, Some, None, if◌then◌else◌}
use Rattle.std.specs.Duration.{as_nanos, max_nanos}
use Rattle.std.specs.declared.time.Duration.{Duration}
use Rattle.vr_model.specs.declared.standing.Standing.{Standing}
use Rattle.plc_machine.specs.declared.leading.Course.{Course}
use Rattle.plc_machine.specs.declared.leading.Course.TheVariants.{StandingBy, Leading}
use Rattle.plc_machine.specs.declared.leading.LastScan.{LastScan}
use Rattle.plc_machine.specs.declared.leading.Lead.{Lead}
use Rattle.plc_machine.specs.declared.leading.Pace.{Pace}

-- the view that a replica leads normally, whose store has not failed
abbrev pub led_view : Standing → Bool → Option ℕ
led_view standing has_failed = if standing.is_primary && not has_failed then Some standing.view else None

-- a time that is told is no longer than the longest
abbrev pub later_by : ℕ → ℕ → ℕ
later_by time more = min (time + more) max_nanos

-- behind a scan that was due then and comes now: a period after that was due; or, where it comes a period late or more,
-- a period from now, so that none is made up for
abbrev pub next_due : ℕ → ℕ → ℕ → ℕ
next_due due now period = if nat_lt now (later_by due period) then later_by due period else later_by now period

-- a period behind the scan that came in then, but not before now
abbrev pub starts_from : ℕ → ℕ → ℕ → ℕ
starts_from came now period = if nat_lt now (later_by came period) then later_by came period else now

-- where outputs are no longer fresh that were submitted, or came in, then
abbrev pub opens_from : ℕ → ℕ → ℕ
opens_from came fresh = later_by came fresh

-- in milliseconds: the moment of that scan, and the time since it came in
abbrev pub moment_at : LastScan → ℕ → ℕ
moment_at from now = min (from.moment + (now - as_nanos from.came) / 1_000_000) (2 ^ 64 - 1)

-- a machine leads this view from now on, with the last scan of its log, if there is one; where there is none whoever led
-- in the epoch before may show outputs until they are no longer fresh
abbrev pub Begins : ℕ → Option LastScan → Duration → Pace → Lead → Type 0
Begins view (Some last) now pace lead = (lead.view ≡ view) × (lead.from ≡ last)
    × (as_nanos lead.due ≡ starts_from (as_nanos last.came) (as_nanos now) (as_nanos pace.period))
    × (as_nanos lead.opens ≡ opens_from (as_nanos last.came) (as_nanos pace.fresh))
Begins view None now pace lead = (lead.view ≡ view) × (lead.from ≡ record { moment = 0; came = now })
    × (lead.due ≡ now) × (as_nanos lead.opens ≡ opens_from (as_nanos now) (as_nanos pace.fresh))

abbrev pub BeginsAs : ℕ → Option LastScan → Duration → Pace → Course → Type 0
BeginsAs view last now pace StandingBy = ⊥
BeginsAs view last now pace (Leading lead) = Begins view last now pace lead

-- By a look at its replica: where that leads no view the machine stands by; where it leads the view that the machine
-- leads, that goes on; else the machine begins to lead it.
abbrev pub Follows : Course → Option ℕ → Option LastScan → Duration → Pace → Course → Type 0
Follows before None last now pace after = after ≡ StandingBy
Follows StandingBy (Some view) last now pace after = BeginsAs view last now pace after
Follows (Leading lead) (Some view) last now pace after =
    MatchBool (lead.view == view) (after ≡ Leading lead) (BeginsAs view last now pace after)
