-- What the mark of a store says of a change of the program, when that's found out, and what is kept.
use Rattle.std.specs.Prelude.{◌≡◌, ℕ, Bool, true, false, List, bytes_eq, Option, Some, None}
use Rattle.plc_member.specs.declared.program.Mark.{Mark}
use Rattle.plc_member.specs.declared.program.Mark.TheVariants as marks
use Rattle.plc_member.specs.declared.program.Deed.{Deed}
use Rattle.plc_member.specs.declared.program.Deed.TheVariants as deeds
use Rattle.plc_member.specs.Shelf.{Shelf}

-- a change that was seen is found out to be made, or refused, by a replica that takes part
abbrev pub is_to_settle : Mark → Bool → Bool
is_to_settle marks.Absent is_normal = false
is_to_settle marks.Seen is_normal = is_normal
is_to_settle marks.Made is_normal = false

-- where the program in force is the one with which the epoch began, the change was refused: no mark is left of it
abbrev pub mark_by : Bool → Mark
mark_by true = marks.Absent
mark_by false = marks.Made

-- as a life of a machine begins, a change that the mark of its store tells may have been refused
abbrev pub found_mark : Bool → Mark
found_mark false = marks.Absent
found_mark true = marks.Seen

-- the store has the mark of a change to this image, by what its mark says and the image that is known of it
abbrev pub is_marked : Mark → List ℕ → List ℕ → Bool
is_marked marks.Absent own image = false
is_marked marks.Seen own image = bytes_eq own image
is_marked marks.Made own image = bytes_eq own image

-- what is kept behind a deed that was done, with this image
abbrev pub IsDone : Deed → List ℕ → Shelf → Type 0
IsDone deeds.Marks image shelf = shelf.mark ≡ Some image
IsDone deeds.Unmarks image shelf = shelf.mark ≡ None
IsDone deeds.Counts image shelf = shelf.is_counted ≡ true
