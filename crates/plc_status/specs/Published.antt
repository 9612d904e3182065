-- The words by which what shows of a group, of its machines and of its scans is published.
use Rattle.std.specs.Prelude.{ℕ, Bool, true, false, List, [], ◌∷◌, Option, Some, None, ◌≡◌, ◌<◌, ◌++◌, length}
use Rattle.vr_shown.specs.declared.shown.Shown.{Shown}
use Rattle.vr_shown.specs.Showing.{nothing_shown, shown_words}
use Rattle.plc_status.specs.declared.machine.MachineStatus.{MachineStatus}
use Rattle.plc_status.specs.declared.scans.ScanStatus.{ScanStatus}
use Rattle.plc_status.specs.Scans.{scan_words}

-- ---- a machine

-- a machine stands by, or drives
abbrev pub course_word : Bool → ℕ
course_word false = 1
course_word true = 2

abbrev pub majority_word : Bool → ℕ
majority_word false = 0
majority_word true = 1

-- so many machines as a byte counts
abbrev pub IsCounted : Option MachineStatus → Type 0
IsCounted None = Unit {0}
IsCounted (Some machine) = (machine.heard < 256) × (machine.others < 256)

-- zeros where the process is no machine of a group
abbrev pub machine_words : Option MachineStatus → List ℕ
machine_words None = 0 ∷ 0 ∷ 0 ∷ 0 ∷ 0 ∷ 0 ∷ []
machine_words (Some machine) =
    course_word machine.is_driving ∷ machine.epoch ∷ machine.heard ∷ machine.others
    ∷ majority_word machine.has_majority ∷ machine.forged ∷ []

-- ---- a group, and its scans

-- as many as the largest group has
abbrev pub AreOfGroup : List Shown → Type 0
AreOfGroup replicas = length replicas ≡ 7

-- the words of each replica, one behind the other, then those of the scans, and then the counts of their intervals
abbrev pub status_words : List Shown → ScanStatus → List ℕ
status_words [] scans = scan_words scans ++ scans.interval_counts
status_words (shown ∷ replicas) scans = shown_words shown ++ status_words replicas scans

-- no replica was started
abbrev pub nothing : List Shown
nothing = nothing_shown ∷ nothing_shown ∷ nothing_shown ∷ nothing_shown ∷ nothing_shown ∷ nothing_shown ∷ nothing_shown ∷ []
