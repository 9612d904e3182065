-- How far the inputs of a device came: from the device to the controller, and through a scan.
use Rattle.std.specs.Prelude.{ℕ, Bool, true, false, nat_le, if◌then◌else◌}
use Rattle.field_cycle.specs.Links.{later}
use Rattle.field_cycle.specs.declared.passage.Pace.{Pace}
use Rattle.field_cycle.specs.declared.passage.Pace.TheVariants.{Counted, Timed}
use Rattle.field_cycle.specs.declared.passage.Showing.{Showing}
use Rattle.field_cycle.specs.declared.passage.Passage.{Passage}
use Rattle.field_cycle.specs.declared.passage.Passage.TheVariants.{Unread, Read, Handed, Scanned, Released}

abbrev pub has_scan_by : Pace → ℕ → ℕ → Bool
has_scan_by (Counted is_other) since now = is_other
has_scan_by (Timed period) since now = nat_le (later since period) now

-- a scan was released since a moment: the count of scans is another, or, where none counts them, a scan's time is over
abbrev pub has_scan : Showing → ℕ → Bool
has_scan s since = has_scan_by s.pace since s.now

abbrev pub read_of : Passage → Passage
read_of Unread = Read
read_of further = further

-- Where the controller shows its outputs: it has the inputs by then if all is handed over; then one scan is released,
-- which may have begun before it had them, and then another one, which had them.
abbrev pub stepped : Passage → Bool → Showing → Passage
stepped Unread is_handed s = Unread
stepped Read is_handed s = if is_handed then Handed s.now else Read
stepped (Handed since) is_handed s = if has_scan s since then Scanned s.now else Handed since
stepped (Scanned since) is_handed s = if has_scan s since then Released else Scanned since
stepped Released is_handed s = Released

abbrev pub is_released : Passage → Bool
is_released Released = true
is_released _ = false
