-- The program to which a change was made in the epoch of a store, by the mark beside it.
use Rattle.std.specs.Prelude.{◌≡◌, ℕ, List, Option, Some, None, Result, Ok, Err, if◌then◌else◌}
use Rattle.plc_epochs.specs.declared.kept.Kept.{Kept}
use Rattle.plc_epochs.specs.declared.kept.Kept.TheVariants as keeps
use Rattle.plc_store.specs.declared.judging.Refusal.{Refusal}
use Rattle.plc_store.specs.declared.judging.Refusal.TheVariants as refusals
use Rattle.plc_store.specs.Judging.{found_in, is_changed}
use Rattle.plc_store.specs.Marking.{changed_image}
use Rattle.plc_store.specs.Spelling.{Saying}

-- the image that a mark has of a change in the epoch that was begun
abbrev pub image_marked : Kept → Option (List ℕ) → Option (List ℕ)
image_marked (keeps.Begun epoch) (Some bytes) = changed_image epoch bytes
image_marked (keeps.Begun epoch) None = None
image_marked keeps.Nothing mark = None
image_marked (keeps.Above epoch) mark = None
image_marked (keeps.Entered epoch) mark = None

abbrev pub of_mark : Option (List ℕ) → Result (List ℕ) Refusal
of_mark (Some image) = Ok image
of_mark None = Err refusals.NoImage

-- the image to which the program was changed in the epoch that was begun
abbrev pub changed_to : Kept → Option (List ℕ) → Result (List ℕ) Refusal
changed_to kept mark = if is_changed kept mark then of_mark (image_marked kept mark) else Err refusals.NotChanged

-- the program of the store of these bytes was changed to this image, by this mark
abbrev pub IsChangedTo : Option (List ℕ) → Option (List ℕ) → List ℕ → Type 0
IsChangedTo group mark image = (found : Saying) × (found_in group ≡ Ok found)
    × (changed_to found.header.kept mark ≡ Ok image)

-- it wasn't, for this reason
abbrev pub IsNotChanged : Option (List ℕ) → Option (List ℕ) → Refusal → Type 0
IsNotChanged group mark refusal = (found : Saying) × (found_in group ≡ Ok found)
    × (changed_to found.header.kept mark ≡ Err refusal)
