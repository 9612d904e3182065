-- What a cycle carries to the places of %I: of each device what was gathered of its replies, or what its fallback says.
use Rattle.std.specs.Prelude.{◌≡◌, ℕ, ℤ, pos, Bool, true, false, if◌then◌else◌, List, [], ◌∷◌, length, get_or}
use Rattle.std.specs.Prelude.{slice_get, Option, Some, None, is_some, ◌-◌, map}
use Rattle.std.specs.List.{flat_map, AllByRecursion}
use Rattle.il_model.specs.declared.limits.TheConstants.{BITS, WORDS}
use Rattle.il_model.specs.declared.cells.Cells.{Cells}
use Rattle.il_model.specs.Locations.{clear_cells}
use Rattle.io_image.specs.Book.{after_change}
use Rattle.modbus_wire.specs.declared.reply.Reply.{Reply}
use Rattle.modbus_wire.specs.declared.reply.Reply.TheVariants.{Bits, Words}
use Rattle.field_map.specs.declared.places.Kind.{Kind}
use Rattle.field_map.specs.declared.places.Places.{Places}
use Rattle.field_map.specs.declared.device.Device.{Device}
use Rattle.field_map.specs.declared.reading.Reading.{Reading}
use Rattle.field_map.specs.declared.places.Kind.TheVariants as kinds
use Rattle.field_map.specs.Asking.{carried, all_cells, after_some, shown_by}
use Rattle.field_map.specs.Layouts.{arranged_reply}
use Rattle.field_map.specs.Filled.{is_in_some, is_in_any, is_read, are_all_apart, is_in}
use Rattle.field_map.specs.Field.{filled_by, places_read}
use Rattle.field_map.specs.Rounds.{handed_cells}

-- ---- what places have after devices were handed over

-- what a cell has
pub data Cell : Type 0 where
  bit : Bool → Cell
  word : ℤ → Cell

-- the cell of this kind and number
abbrev pub cell_at : Cells → Kind → ℕ → Cell
cell_at c kinds.Bits n = bit (get_or c.bits n false)
cell_at c kinds.Words n = word (get_or c.words n (pos 0))

-- as many cells as an area has
abbrev pub IsWhole : Cells → Type 0
IsWhole c = (length c.bits ≡ BITS) × (length c.words ≡ WORDS)

-- the cells once places were handed over as others have them
abbrev pub handed_over : Cells → Option Places → Option Cells → Cells
handed_over c (Some p) (Some cells) = after_change c (carried p cells)
handed_over c _ _ = c

-- A device, and what was gathered of it, if it answered. Its inputs are handed over, and whether it answers.
abbrev pub after_device : Cells → Device → Option Cells → Cells
after_device c d gathered = handed_over (handed_over c d.inputs.places (handed_cells d.on_loss gathered)) d.alive
    (Some (all_cells (is_some gathered)))

-- one device after the other
abbrev pub after_devices : Cells → List (Device × Option Cells) → Cells
after_devices c [] = c
after_devices c (x ∷ xs) = after_devices (after_device c x.0 x.1) xs

abbrev pub is_filled : List (Device × Option Cells) → Kind → ℕ → Bool
is_filled xs kind n = is_in_any (flat_map (λ x. filled_by x.0) xs) kind n

-- what cells have at a place, or what was there, if there are none
abbrev pub shown_at_place : Option Cells → Kind → ℕ → Cell → Cell
shown_at_place None kind n before = before
shown_at_place (Some cells) kind n before = cell_at cells kind n

-- what a device gives to a place: to its alive bit, whether it answers; to the places of its readings what was gathered,
-- or what its fallback says; to no other
abbrev pub given_by : Device → Option Cells → Kind → ℕ → Cell → Cell
given_by d gathered kind n before =
    if is_in_some d.alive kind n then cell_at (all_cells (is_some gathered)) kind n
    else (if is_read d.inputs.readings.items kind n then shown_at_place (handed_cells d.on_loss gathered) kind n before
    else before)

abbrev pub IsWholeIf : Option Cells → Type 0
IsWholeIf None = Unit {0}
IsWholeIf (Some c) = IsWhole c

-- each place that a device fills has what that device gives, and each other has what it had
pub record HasGiven (xs : List (Device × Option Cells)) (before after : Cells) : Type 0 where
  pub given : (i : ℕ) (d : Device) (gathered : Option Cells) (kind : Kind) (n : ℕ) → slice_get xs i ≡ Some (d, gathered)
      → is_in_any (filled_by d) kind n ≡ true → cell_at after kind n ≡ given_by d gathered kind n (cell_at before kind n)
  pub others : (kind : Kind) (n : ℕ) → is_filled xs kind n ≡ false → cell_at after kind n ≡ cell_at before kind n

-- where no place is filled twice, each has what its device gives, and no other place is written
abbrev pub IsEachGiven : Type 0
IsEachGiven = (before : Cells) (xs : List (Device × Option Cells)) → IsWhole before
    → AllByRecursion (λ x. IsWholeIf x.1) xs → are_all_apart (flat_map (λ x. filled_by x.0) xs) ≡ true
    → HasGiven xs before (after_devices before xs)

-- ---- what is gathered of the replies to readings

-- what readings gather of their replies, one after the other
abbrev pub gathered_of : List Reading → List Reply → Cells → Cells
gathered_of (r ∷ rs) (reply ∷ replies) c = gathered_of rs replies (after_some c (shown_by r reply))
gathered_of _ _ c = c

-- the value with this number of those that a reply shows
abbrev pub value_shown : Reply → ℕ → Cell
value_shown (Bits bits) k = bit (get_or bits k false)
value_shown (Words words) k = word (get_or words.items k (pos 0))
value_shown _ k = bit false

-- the value that a reply to a reading shows for a place: of its words as the controller has them, in order
abbrev pub value_read : Reading → Reply → ℕ → Cell
value_read r reply n = value_shown (arranged_reply r.layout reply) (n - r.places.from)

-- each reading has a reply, which shows its cells
abbrev pub AreShown : List Reading → List Reply → Type 0
AreShown [] [] = Unit {0}
AreShown (r ∷ rs) (reply ∷ replies) = (is_some (shown_by r reply) ≡ true) × AreShown rs replies
AreShown _ _ = ⊥

-- the places of each reading have the values that its reply shows, in order
abbrev pub HasGathered : List Reading → List Reply → Cells → Type 0
HasGathered rs replies c = (i : ℕ) (r : Reading) (reply : Reply) (kind : Kind) (n : ℕ) → slice_get rs i ≡ Some r
    → slice_get replies i ≡ Some reply → is_in r.places kind n ≡ true
    → cell_at c kind n ≡ value_read r reply n

-- where no place is read twice, each has the value that was read for it
abbrev pub IsEachGathered : Type 0
IsEachGathered = (rs : List Reading) (replies : List Reply) (c : Cells) → IsWhole c
    → are_all_apart (places_read rs) ≡ true → AreShown rs replies → HasGathered rs replies (gathered_of rs replies c)

-- ---- a cycle: each device comes with its replies to its readings, or with none where it's lost

abbrev pub gathered_by : Device → Option (List Reply) → Option Cells
gathered_by d None = None
gathered_by d (Some replies) = Some (gathered_of d.inputs.readings.items replies clear_cells)

-- each device with what its replies gather
abbrev pub with_gathered : List (Device × Option (List Reply)) → List (Device × Option Cells)
with_gathered xs = map (λ x. (x.0, gathered_by x.0 x.1)) xs

-- %I once all were handed over, one after the other
abbrev pub after_cycle : Cells → List (Device × Option (List Reply)) → Cells
after_cycle c xs = after_devices c (with_gathered xs)

-- where it isn't lost, each reading has a reply, which shows its cells
abbrev pub HasAnswered : Device → Option (List Reply) → Type 0
HasAnswered d None = Unit {0}
HasAnswered d (Some replies) = AreShown d.inputs.readings.items replies

pub record HasCarried (xs : List (Device × Option (List Reply))) (before after : Cells) : Type 0 where
  -- the places of a reading have the values that its reply shows, in order
  pub read : (i : ℕ) (d : Device) (replies : List Reply) (j : ℕ) (r : Reading) (reply : Reply) (kind : Kind) (n : ℕ)
      → slice_get xs i ≡ Some (d, Some replies) → slice_get d.inputs.readings.items j ≡ Some r
      → slice_get replies j ≡ Some reply → is_in r.places kind n ≡ true
      → cell_at after kind n ≡ value_read r reply n
  -- those of a lost device have what its fallback says
  pub lost : (i : ℕ) (d : Device) (kind : Kind) (n : ℕ) → slice_get xs i ≡ Some (d, None)
      → is_in_any (places_read d.inputs.readings.items) kind n ≡ true
      → cell_at after kind n ≡ shown_at_place (handed_cells d.on_loss None) kind n (cell_at before kind n)
  -- an alive bit says whether its device answered
  pub alive : (i : ℕ) (d : Device) (replies : Option (List Reply)) (p : Places) (kind : Kind) (n : ℕ)
      → slice_get xs i ≡ Some (d, replies) → d.alive ≡ Some p → is_in p kind n ≡ true
      → cell_at after kind n ≡ cell_at (all_cells (is_some replies)) kind n
  -- no other place is written
  pub others : (kind : Kind) (n : ℕ) → is_in_any (flat_map (λ x. filled_by x.0) xs) kind n ≡ false
      → cell_at after kind n ≡ cell_at before kind n

-- where no place is filled twice
abbrev pub IsEachCarried : Type 0
IsEachCarried = (before : Cells) (xs : List (Device × Option (List Reply))) → IsWhole before
    → AllByRecursion (λ x. HasAnswered x.0 x.1) xs → are_all_apart (flat_map (λ x. filled_by x.0) xs) ≡ true
    → HasCarried xs before (after_cycle before xs)
