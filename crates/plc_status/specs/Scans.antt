-- What shows of the scans, the words that are published for it, and what is noted of a scan that was held or stopped.
use Rattle.std.specs.Prelude.{◌≡◌, ℕ, ◌<◌, ◌+◌, ◌-◌, ◌^◌, min, if◌then◌else◌, nat_lt, List, [], ◌∷◌, Option, Some, None}
use Rattle.std.specs.Prelude.{get_or, set}
use Rattle.std.specs.List.{prefix_len}
use Rattle.il_model.specs.declared.command.Command.{Command}
use Rattle.il_model.specs.declared.command.Answer.{Answer}
use Rattle.il_values.specs.declared.value.Stop.TheVariants as stops
use Rattle.il_model.specs.declared.command.Answer.TheVariants as answers
use Rattle.vr_model.specs.Messages.{Body, Reply}
use Rattle.plc_status.specs.declared.notice.Notice.{Notice}
use Rattle.plc_status.specs.declared.scans.Halt.{Halt}
use Rattle.plc_status.specs.declared.scans.Scan.{Scan}
use Rattle.plc_status.specs.declared.scans.ScanStatus.{ScanStatus}
use Rattle.plc_status.specs.declared.journal.Journal.{Journal}
use Rattle.plc_status.specs.declared.notice.Notice.TheVariants as notices
use Rattle.plc_status.specs.declared.scans.Halt.TheVariants as halts
use Rattle.plc_status.specs.Journal.{IsPut}

-- one more, as far as it can be counted
abbrev pub more : ℕ → ℕ
more count = min (count + 1) (2 ^ 64 - 1)

-- in microseconds: the greatest interval of each bucket but the last, which has those above
abbrev pub bounds : List ℕ
bounds =
    1_000 ∷ 2_500 ∷ 5_000 ∷ 10_000 ∷ 25_000 ∷ 50_000 ∷ 100_000 ∷ 250_000 ∷ 500_000 ∷ 1_000_000 ∷ 2_500_000
    ∷ 5_000_000 ∷ []

-- the bucket of an interval: the first whose bound it doesn't exceed, or the last
abbrev pub bucket_of : ℕ → ℕ
bucket_of interval = prefix_len (λ bound. nat_lt bound interval) bounds

abbrev pub no_scan : ScanStatus
no_scan = record {
  scans = 0;
  late = 0;
  releases = 0;
  released_at = 0;
  scanned_at = 0;
  interval = 0;
  interval_sum = 0;
  interval_counts = 0 ∷ 0 ∷ 0 ∷ 0 ∷ 0 ∷ 0 ∷ 0 ∷ 0 ∷ 0 ∷ 0 ∷ 0 ∷ 0 ∷ 0 ∷ [];
  halt = None;
}

-- one interval more in its bucket
abbrev pub with_one : List ℕ → ℕ → List ℕ
with_one counts bucket = set counts bucket (more (get_or counts bucket 0))

-- with the interval from the scan before to this moment
abbrev pub with_interval : ScanStatus → ℕ → ScanStatus
with_interval before at = record (before) {
  interval = at - before.scanned_at;
  interval_sum = min (before.interval_sum + (at - before.scanned_at)) (2 ^ 64 - 1);
  interval_counts = with_one before.interval_counts (bucket_of (at - before.scanned_at));
}

-- the first scan ends no interval
abbrev pub with_any_interval : ScanStatus → ℕ → ScanStatus
with_any_interval before at = if nat_lt 0 before.scans then with_interval before at else before

abbrev pub after_scan : ScanStatus → Scan → ScanStatus
after_scan before scan = let timed = with_any_interval before scan.at in record (timed) {
  scans = more before.scans;
  late = if scan.is_late then more before.late else before.late;
  releases = if scan.is_released then more before.releases else before.releases;
  released_at = if scan.is_released then scan.at else before.released_at;
  scanned_at = scan.at;
  halt = scan.halt;
}

-- what tells an operator of a scan that was held or stopped
abbrev pub halt_notice : Halt → Notice
halt_notice (halts.Held position) = notices.Held position
halt_notice (halts.Stopped stop position) = notices.Stopped stop position

abbrev pub halt_what : Option Halt → ℕ
halt_what None = 0
halt_what (Some (halts.Held position)) = 1
halt_what (Some (halts.Stopped stops.Overflow position)) = 2
halt_what (Some (halts.Stopped stops.ZeroDivisor position)) = 3
halt_what (Some (halts.Stopped stops.Budget position)) = 4

abbrev pub halt_place : Option Halt → ℕ
halt_place None = 0
halt_place (Some (halts.Held position)) = position
halt_place (Some (halts.Stopped stop position)) = position

-- a scan is held or stopped at a place of a program, if it is
abbrev pub IsPlaced : ScanStatus → Type 0
IsPlaced s = halt_place s.halt < 65536

-- the words that are published, beside the counts of intervals
abbrev pub scan_words : ScanStatus → List ℕ
scan_words s =
    s.scans ∷ s.late ∷ s.releases ∷ s.released_at ∷ s.scanned_at ∷ s.interval ∷ s.interval_sum ∷ halt_what s.halt
    ∷ halt_place s.halt ∷ []

-- ---- by what a scan was held or stopped, and what is noted of that

-- what a scan was held or stopped by, if it was: with its place
abbrev pub halt_of : Answer → Option Halt
halt_of (answers.Held position) = Some (halts.Held position)
halt_of (answers.Stopped stop position image) = Some (halts.Stopped stop position)
halt_of (answers.Outputs count image) = None
halt_of (answers.Value value) = None
halt_of answers.Done = None
halt_of (answers.Refused refusal) = None

abbrev pub halt_by : Body Command Answer → Option Halt
halt_by (Reply view number answer) = halt_of answer
halt_by _ = None

-- what is told of a scan, by what it was held or stopped by, if it was
abbrev pub halted : Option Halt → Notice
halted None = notices.GoesOn
halted (Some halt) = halt_notice halt

-- What is to be told of a scan that was held or stopped or goes on, by what was of the scan before it: it was noted where
-- that's another, and else nothing was.
abbrev pub IsHaltNoted : Option Halt → Option Halt → Journal → Journal → Type 0
IsHaltNoted before halt old new = (before ≡ halt → new ≡ old) × ((before ≡ halt → ⊥) → IsPut (halted halt) old new)
