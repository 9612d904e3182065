-- Forces: for each cell of the inputs and of the outputs the value that stands in its place, or none.
use Rattle.std.specs.Prelude.{ℕ, ℤ, Bool, List, [], ◌∷◌, length, replicate, slice_set, Option, Some, None, unwrap_or}
use Rattle.std.specs.Prelude.{nat_lt, if◌then◌else◌}
use Rattle.std.specs.Option.{option_map}
use Rattle.il_model.specs.declared.limits.TheConstants.{BITS, WORDS}
use Rattle.il_model.specs.declared.cells.Cells.{Cells}
use Rattle.il_values.specs.declared.value.Value.{Value}
use Rattle.il_values.specs.declared.value.Value.TheVariants as values
use Rattle.il_model.specs.declared.program.Area.{Area}
use Rattle.il_model.specs.declared.program.Area.TheVariants as areas
use Rattle.il_model.specs.declared.program.Loc.{Loc}
use Rattle.il_model.specs.declared.program.Loc.TheVariants.{Bit, Word}
use Rattle.il_model.specs.Locations.{area_of}
use Rattle.ctl_model.specs.declared.forces.Mask.{Mask}
use Rattle.ctl_model.specs.declared.forces.Forces.{Forces}

-- each cell as it is, or as it is forced
abbrev pub overlay : {A : Type 0} → List (Option A) → List A → List A
overlay [] xs = xs
overlay (f ∷ fs) [] = []
overlay (f ∷ fs) (x ∷ xs) = unwrap_or f x ∷ overlay fs xs

-- the cells of an area with the forces laid over them
abbrev pub with_forces : Mask → Cells → Cells
with_forces m c = record { bits = overlay m.bits c.bits; words = overlay m.words c.words }

abbrev pub no_mask : Mask
no_mask = record { bits = replicate BITS None; words = replicate WORDS None }

abbrev pub no_forces : Forces
no_forces = record { input = no_mask; output = no_mask }

abbrev pub with_bit : Mask → ℕ → Option Bool → Option Mask
with_bit m n b = if nat_lt n (length m.bits) then Some (record m { bits = slice_set m.bits n b }) else None

abbrev pub with_word : Mask → ℕ → Option ℤ → Option Mask
with_word m n z = if nat_lt n (length m.words) then Some (record m { words = slice_set m.words n z }) else None

-- a bit is forced to a BOOL, a word to an INT; a pattern or a double word is no cell of its own: its words are forced
abbrev pub with_forced : Mask → Loc → Value → Option Mask
with_forced m (Bit a n) (values.Bool b) = with_bit m n (Some b)
with_forced m (Word a n) (values.Int z) = with_word m n (Some z)
with_forced m loc v = None

abbrev pub with_freed : Mask → Loc → Option Mask
with_freed m (Bit a n) = with_bit m n None
with_freed m (Word a n) = with_word m n None
with_freed m loc = None

-- inputs and outputs can be forced, memory can't
abbrev pub in_area : Forces → Area → (Mask → Option Mask) → Option Forces
in_area f areas.Input change = option_map (λ m. record f { input = m }) (change f.input)
in_area f areas.Output change = option_map (λ m. record f { output = m }) (change f.output)
in_area f areas.Memory change = None

-- the forces with a location forced to a value, or freed; none where it can't be
abbrev pub put_force : Forces → Loc → Value → Option Forces
put_force f loc v = in_area f (area_of loc) (λ m. with_forced m loc v)

abbrev pub lift_force : Forces → Loc → Option Forces
lift_force f loc = in_area f (area_of loc) (λ m. with_freed m loc)
