-- What a snapshot has of a controller's state, and which snapshots are of a program's shape.
use Rattle.std.specs.Prelude.{◌≡◌, ℕ, suc, Bool, true, false, ◌&&◌, List, [], ◌∷◌, ◌++◌, length, map, filter, reverse}
use Rattle.std.specs.Prelude.{Option, Some, None, is_none, Result, Ok, Err, nat_lt, nat_eq, ℤ}
use Rattle.std.specs.Option.{option_map}
use Rattle.std.specs.Str.{bytes_eq}
use Rattle.il_model.specs.declared.typing.TypeFault.{TypeFault}
use Rattle.il_values.specs.declared.value.Ty.{Ty}
use Rattle.il_values.specs.declared.value.Value.{Value}
use Rattle.il_values.specs.declared.value.Value.TheVariants as values
use Rattle.il_model.specs.declared.program.Instance.{Instance}
use Rattle.il_model.specs.declared.program.Variable.{Variable}
use Rattle.il_model.specs.declared.program.Area.{Area}
use Rattle.il_model.specs.declared.program.Area.TheVariants as areas
use Rattle.il_model.specs.declared.program.Loc.{Loc}
use Rattle.il_model.specs.declared.program.Loc.TheVariants.{Bit, Word}
use Rattle.il_model.specs.declared.typing.Held.{Held}
use Rattle.il_model.specs.declared.snapshot.ForcedSlot.{ForcedSlot}
use Rattle.il_model.specs.declared.snapshot.SavedPhase.{SavedPhase}
use Rattle.il_model.specs.declared.snapshot.SavedPhase.TheVariants as saved_phases
use Rattle.il_model.specs.Snapshots.{SavedBlock, SavedController}
use Rattle.il_values.specs.Values.{ty_of}
use Rattle.il_values.specs.Operators.{same_truth}
use Rattle.il_model.specs.Row.{same_type}
use Rattle.il_model.specs.Kinds.{kind_code}
use Rattle.il_model.specs.CodedOperands.{loc_code}
use Rattle.il_model.specs.Image.{spelling}
use Rattle.il_values.specs.OpCodes.{op_code}
use Rattle.il_model.specs.Typing.{Shape, loc_type}
use Rattle.il_model.specs.Checking.{shape_at}
use Rattle.il_model.specs.Program.{Program}
use Rattle.ctl_blocks.specs.Blocks.{kind_of, block_words, is_block}
use Rattle.std.specs.List.{AllByRecursion, items_where_true, list_all, range_with_len}
use Rattle.ctl_model.specs.declared.forces.Mask.{Mask}
use Rattle.ctl_model.specs.declared.forces.Forces.{Forces}
use Rattle.ctl_model.specs.declared.phase.Phase.{Phase}
use Rattle.ctl_model.specs.declared.phase.Phase.TheVariants as phases
use Rattle.ctl_model.specs.State.{BlockInstance, has_own}
use Rattle.ctl_model.specs.Suits.{held_of, input_types}
use Rattle.ctl_model.specs.Scan.{is_break}
use Rattle.ctl_model.specs.Commands.{Control, forcible_at}

-- ---- what a snapshot has of a state

-- the values of the variables without a location, in order
abbrev pub own_values : List Variable → List Value → List Value
own_values vs own = items_where_true (map has_own vs) own

abbrev pub saved_instance : BlockInstance → SavedBlock
saved_instance x = record { kind = kind_of x.block; inputs = x.inputs; words = block_words x.block }

-- of instances with lawful blocks, those with the same snapshot are the same
abbrev pub AreKnown : List BlockInstance → List BlockInstance → Type 0
AreKnown xs ys = AllByRecursion (λ (x : BlockInstance). is_block x.block ≡ true) xs
    → AllByRecursion (λ (x : BlockInstance). is_block x.block ≡ true) ys → map saved_instance xs ≡ map saved_instance ys
    → xs ≡ ys

abbrev pub forced_bits : ℕ → List (Option Bool) → List ForcedSlot
forced_bits n [] = []
forced_bits n (None ∷ fs) = forced_bits (suc n) fs
forced_bits n (Some b ∷ fs) = record { slot = record { 0 = n }; value = values.Bool b } ∷ forced_bits (suc n) fs

abbrev pub forced_words : ℕ → List (Option ℤ) → List ForcedSlot
forced_words n [] = []
forced_words n (None ∷ fs) = forced_words (suc n) fs
forced_words n (Some z ∷ fs) = record { slot = record { 0 = n }; value = values.Int z } ∷ forced_words (suc n) fs

-- the bits of an area, and then its words, from the codes of the first ones on
abbrev pub forced_in : Area → Mask → List ForcedSlot
forced_in area m = forced_bits (loc_code (Bit area 0)) m.bits ++ forced_words (loc_code (Word area 0)) m.words

-- what is forced, rising by slot
abbrev pub forced_slots : Forces → List ForcedSlot
forced_slots f = forced_in areas.Input f.input ++ forced_in areas.Output f.output

-- the positions of the breakpoints, rising
abbrev pub break_positions : List Bool → List ℕ
break_positions breaks = filter (is_break breaks) (range_with_len 0 (length breaks))

abbrev pub saved_phase : Phase → ℕ → SavedPhase
saved_phase phases.Idle performed = saved_phases.Idle
saved_phase phases.Held performed = saved_phases.Held performed
saved_phase (phases.Stopped stop) performed = saved_phases.Stopped stop

abbrev pub snapshot_of : Program → Control → SavedController
snapshot_of Q s = record {
  image = spelling Q;
  variables = own_values Q.variables s.cycle.state.own;
  instances = map saved_instance s.cycle.state.instances;
  input = s.cycle.state.input;
  output = s.cycle.state.output;
  memory = s.cycle.state.memory;
  cr = s.cycle.state.cr;
  deferred = reverse s.cycle.state.kept;
  position = s.cycle.state.position;
  count = s.cycle.count;
  moment = s.cycle.moment;
  forces = forced_slots s.cycle.forces;
  breaks = break_positions s.breaks;
  phase = saved_phase s.phase s.cycle.performed;
}

abbrev pub with_image : SavedController → List ℕ → SavedController
with_image s image = record s { image = image }

-- ---- the shape of a program's snapshots

abbrev pub are_types : List Value → List Ty → Bool
are_types [] [] = true
are_types (v ∷ vs) (t ∷ ts) = same_type (ty_of v) t && are_types vs ts
are_types vs ts = false

-- the kind of the declared instance, and a value of its type for each input
abbrev pub fits_instance : Instance → SavedBlock → Bool
fits_instance d x = nat_eq (kind_code x.kind) (kind_code d.kind) && are_types x.inputs (input_types d.kind)

abbrev pub fit_instances : List Instance → List SavedBlock → Bool
fit_instances [] [] = true
fit_instances (d ∷ ds) (x ∷ xs) = fits_instance d x && fit_instances ds xs
fit_instances ds xs = false

-- the types of the variables without a location, in order
abbrev pub own_types : List Variable → List Ty
own_types vs = map (λ (v : Variable). v.ty) (filter has_own vs)

-- each number is below the next one
abbrev pub is_below : ℕ → List ℕ → Bool
is_below m [] = true
is_below m (n ∷ ns) = nat_lt m n

abbrev pub are_rising : List ℕ → Bool
are_rising [] = true
are_rising (n ∷ ns) = is_below n ns && are_rising ns

-- the positions rise, and each is an instruction's
abbrev pub fit_breaks : ℕ → List ℕ → Bool
fit_breaks end positions = are_rising positions && list_all (λ p. nat_lt p end) positions

-- a location of %I or %Q by its slot, with a value of its type
abbrev pub fits_location : Value → Option Loc → Bool
fits_location v None = false
fits_location v (Some loc) = elim (loc_type loc) [ Some t ↦ same_type (ty_of v) t | None ↦ false ]

abbrev pub fits_force : ForcedSlot → Bool
fits_force f = fits_location f.value (forcible_at f.slot.0)

-- the slots rise, and each is such a location
abbrev pub fit_forces : List ForcedSlot → Bool
fit_forces forces = are_rising (map (λ (f : ForcedSlot). f.slot.0) forces) && list_all fits_force forces

-- ---- the open scan

abbrev pub same_optional : Option Ty → Option Ty → Bool
same_optional None None = true
same_optional (Some a) (Some b) = same_type a b
same_optional a b = false

abbrev pub same_held : Held → Held → Bool
same_held a b = nat_eq (op_code a.op) (op_code b.op) && (same_truth a.negated b.negated && same_type a.ty b.ty)

abbrev pub all_held : List Held → List Held → Bool
all_held [] [] = true
all_held (a ∷ xs) (b ∷ ys) = same_held a b && all_held xs ys
all_held xs ys = false

-- the current result and the deferred operators are of the types on arrival
abbrev pub fits_types : SavedController → Result Shape (TypeFault × ℕ) → Bool
fits_types s (Err f) = false
fits_types s (Ok sh) = same_optional (option_map ty_of s.cr) sh.cr
    && all_held (map held_of (reverse s.deferred)) sh.kept

-- before an instruction, with its types
abbrev pub fits_run : Program → SavedController → Bool
fits_run Q s = nat_lt s.position (length Q.code) && fits_types s (shape_at Q s.position)

abbrev pub is_at_rest : SavedController → Bool
is_at_rest s = is_none s.cr && (nat_eq (length s.deferred) 0 && nat_eq s.position 0)

-- a held scan has something left of the budget
abbrev pub fits_phase : Program → ℕ → SavedController → SavedPhase → Bool
fits_phase Q budget s saved_phases.Idle = is_at_rest s
fits_phase Q budget s (saved_phases.Held performed) = fits_run Q s && nat_lt performed budget
fits_phase Q budget s (saved_phases.Stopped stop) = fits_run Q s

-- ---- the whole

-- the snapshot begins with the program's own image
abbrev pub fits : Program → ℕ → SavedController → Bool
fits Q budget s =
    bytes_eq s.image (spelling Q)
    && (are_types s.variables (own_types Q.variables)
    && (fit_instances Q.instances s.instances
    && (fit_breaks (length Q.code) s.breaks
    && (fit_forces s.forces && fits_phase Q budget s s.phase))))
