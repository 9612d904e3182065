-- Epochs: which of two is the later one, which comes next, and what stores and machines have of them.
use Rattle.std.specs.Prelude.{ℕ, ◌+◌, ◌==◌, ◌&&◌, Bool, true, false, List, bytes_eq, nat_lt, Option, Some, None}
use Rattle.std.specs.Prelude.{if◌then◌else◌, Result, Ok, Err, ◌-◌, nat_le, replicate, slice_get}
use Rattle.std.specs.Ordering.{is_gt, nat_cmp}
use Rattle.std.specs.Cmp.Lexicographic.{slice_cmp}
use Rattle.std.specs.declared.cmp.Ordering.{Ordering}
use Rattle.std.specs.declared.cmp.Ordering.TheVariants.{Less, Equal, Greater}
use Rattle.vr_model.specs.Groups.{most_replicas}
use Rattle.net_hello.specs.declared.hello.Epoch.{Epoch}
use Rattle.plc_epochs.specs.declared.kept.Kept.{Kept}
use Rattle.plc_epochs.specs.declared.kept.ByHandFault.{ByHandFault}
use Rattle.plc_epochs.specs.declared.kept.ByHandFault.TheVariants.{Waits, LastEpoch}
use Rattle.plc_epochs.specs.declared.kept.Kept.TheVariants as keeps

abbrev pub is_later_by : Ordering → List ℕ → List ℕ → Bool
is_later_by Less image other = false
is_later_by Equal image other = is_gt (slice_cmp nat_cmp image other)
is_later_by Greater image other = true

-- of a greater number; or of the same number, with an image whose sum is greater
abbrev pub is_later : Epoch → Epoch → Bool
is_later epoch other = is_later_by (nat_cmp epoch.number other.number) epoch.image other.image

-- of one number, with one image
abbrev pub is_same : Epoch → Epoch → Bool
is_same epoch other = (epoch.number == other.number) && bytes_eq epoch.image other.image

-- more than one number above the other
abbrev pub is_far_above : Epoch → Epoch → Bool
is_far_above epoch other = nat_lt 1 (epoch.number - other.number)

-- the greatest number is never used
abbrev pub last_number : ℕ
last_number = 18_446_744_073_709_551_615

-- of the next number, with this image
abbrev pub next_epoch : Epoch → List ℕ → Option Epoch
next_epoch epoch image = if nat_lt (epoch.number + 1) last_number
    then Some (record { number = epoch.number + 1; image = image }) else None

-- ---- what the store of a machine has of epochs

abbrev pub entered_by_hand : Option Epoch → Result Kept ByHandFault
entered_by_hand None = Err LastEpoch
entered_by_hand (Some next) = Ok (keeps.Entered next)

-- the next epoch, not begun; never where the store has none
abbrev pub by_hand : Kept → List ℕ → Result Kept ByHandFault
by_hand keeps.Nothing image = Err Waits
by_hand (keeps.Above epoch) image = Err Waits
by_hand (keeps.Entered epoch) image = entered_by_hand (next_epoch epoch image)
by_hand (keeps.Begun epoch) image = entered_by_hand (next_epoch epoch image)

-- ---- what machines of a group have told: a list with a place for each

-- nothing of any machine
abbrev pub nothing_told : List (Option ℕ)
nothing_told = replicate most_replicas None

-- within the last second
abbrev pub is_recent : ℕ → Option ℕ → Bool
is_recent now None = false
is_recent now (Some came) = nat_le (now - came) 1000

abbrev pub is_recent_in : ℕ → Option (Option ℕ) → Bool
is_recent_in now (Some came) = is_recent now came
is_recent_in now None = false

-- of this machine
abbrev pub is_recent_of : List (Option ℕ) → ℕ → ℕ → Bool
is_recent_of told machine now = is_recent_in now (slice_get told machine)

abbrev pub is_word : Option (Option ℕ) → ℕ → Bool
is_word (Some (Some said)) word = said == word
is_word (Some None) word = false
is_word None word = false

-- a machine told this
abbrev pub has_told : List (Option ℕ) → ℕ → ℕ → Bool
has_told told machine word = is_word (slice_get told machine) word
