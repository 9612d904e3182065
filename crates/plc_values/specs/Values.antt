-- What is seen of one controller between two of its commands, as one JSON object (RFC 8259): its variables and the
-- fields of its instances with their values, and what is forced.
use Rattle.std.specs.Prelude.{ℕ, ◌+◌, ◌||◌, Bool, true, false, List, ◌++◌, Option, Some, None, codes, decimal, if◌then◌else◌}
use Rattle.std.specs.Prelude.{fold, find, is_none, nat_eq, slice_get, slice_set, String, string_bytes}
use Rattle.std.specs.Global.{Global}
use Rattle.std.specs.List.{enumerate_from, flat_map, list_any}
use Rattle.il_values.specs.declared.value.Value.{Value}
use Rattle.il_values.specs.declared.value.Value.TheVariants as values
use Rattle.il_values.specs.Values.{ty_of}
use Rattle.il_model.specs.declared.cells.Cells.{Cells}
use Rattle.il_model.specs.declared.command.Answer.{Answer}
use Rattle.il_model.specs.declared.command.Answer.TheVariants as answers
use Rattle.il_model.specs.declared.coded_operand.CodedOperand.{CodedOperand}
use Rattle.il_model.specs.declared.coded_operand.CodedOperand.TheVariants as coded
use Rattle.il_model.specs.declared.kind.BlockKind.{BlockKind}
use Rattle.il_model.specs.declared.kind.Field.{Field}
use Rattle.il_model.specs.declared.program.Area.{Area}
use Rattle.il_model.specs.declared.program.Area.TheVariants as areas
use Rattle.il_model.specs.declared.program.Instance.{Instance}
use Rattle.il_model.specs.declared.program.Loc.{Loc}
use Rattle.il_model.specs.declared.program.Loc.TheVariants.{Bit, Word, Pattern, Double}
use Rattle.il_model.specs.declared.program.Variable.{Variable}
use Rattle.il_model.specs.declared.snapshot.ForcedSlot.{ForcedSlot}
use Rattle.il_model.specs.declared.snapshot.SavedPhase.{SavedPhase}
use Rattle.il_model.specs.declared.snapshot.SavedPhase.TheVariants as phases
use Rattle.il_model.specs.CodedOperands.{any_loc, code_of, loc_code, with_code}
use Rattle.il_model.specs.Kinds.{field_name, kind_fields, kind_name}
use Rattle.il_model.specs.Locations.{area_of, clear_cells}
use Rattle.il_model.specs.Program.{Program}
use Rattle.il_model.specs.Snapshots.{SavedController}
use Rattle.il_lister.specs.Listing.{location_text, type_name}
use Rattle.il_model.specs.declared.slot.Slot.{Slot}
use Rattle.ctl_model.specs.Slots.{slot_of, value_read}
use Rattle.ctl_model.specs.Snapshots.{snapshot_of}
use Rattle.ctl_model.specs.State.{value_in}
use Rattle.ctl_debugger.specs.Owned.{Owned}
use Rattle.plc_figures.specs.State.{value_json}
use Rattle.plc_figures.specs.Texts.{comma, flag_json, string_json}
use Rattle.plc_values.specs.declared.shown.Shown.{Shown}

-- ---- what there is of a controller

abbrev pub saved : Owned → SavedController
saved o = snapshot_of o.program o.control

-- a force of an output, laid over the outputs; one of an input lies over the inputs since its scan began
abbrev pub laid_at : Cells → Option Loc → Value → Cells
laid_at cells (Some (Bit areas.Output n)) (values.Bool b) = record cells { bits = slice_set cells.bits n b }
laid_at cells (Some (Word areas.Output n)) (values.Int z) = record cells { words = slice_set cells.words n z }
laid_at cells loc v = cells

abbrev pub laid : Cells → ForcedSlot → Cells
laid cells force = laid_at cells (any_loc force.slot.0) force.value

-- the outputs as the end of a scan releases them: %Q with the forces over it; while a controller is stopped all FALSE
-- and 0
abbrev pub released_in : SavedPhase → Cells → List ForcedSlot → Cells
released_in (phases.Stopped stop) cells forces = clear_cells
released_in phase cells forces = fold laid cells forces

abbrev pub released : SavedController → Cells
released s = released_in s.phase s.output s.forces

-- ---- slots: a location, a declared variable, a field of an instance

-- where a declared variable lies
abbrev pub place_of : Option Variable → Option Loc
place_of None = None
place_of (Some v) = v.location

abbrev pub located : Program → Option CodedOperand → Option Loc
located Q (Some (coded.Location loc)) = Some loc
located Q (Some (coded.Variable i)) = place_of (slice_get Q.variables i)
located Q operand = None

-- at which location a slot's value lies, if it lies at one
abbrev pub location_of : Program → ℕ → Option Loc
location_of Q slot = located Q (with_code slot)

abbrev pub is_output : Area → Bool
is_output areas.Output = true
is_output area = false

-- the value that an answer tells
abbrev pub answered : Answer → Option Value
answered (answers.Value v) = Some v
answered answer = None

-- what a read of the slot answers, if it answers something
abbrev pub read_in : Owned → ℕ → Option Value
read_in o slot = value_read o.program o.control.cycle.state slot

-- an output's value is that which is released, any other one what a read answers
abbrev pub value_at : Owned → ℕ → Option Loc → Option Value
value_at o slot None = read_in o slot
value_at o slot (Some loc) = if is_output (area_of loc) then value_in (released (saved o)) loc else read_in o slot

abbrev pub has_force : List ForcedSlot → ℕ → Bool
has_force forces code = list_any (λ force. nat_eq force.slot.0 code) forces

-- a word is forced whatever it's read as, a double word where one of its two words is
abbrev pub is_forced : List ForcedSlot → Option Loc → Bool
is_forced forces None = false
is_forced forces (Some (Bit area n)) = has_force forces (loc_code (Bit area n))
is_forced forces (Some (Word area n)) = has_force forces (loc_code (Word area n))
is_forced forces (Some (Pattern area n)) = has_force forces (loc_code (Word area n))
is_forced forces (Some (Double area n t)) =
    has_force forces (loc_code (Word area n)) || has_force forces (loc_code (Word area n) + 1)

-- what is seen of a slot
abbrev pub shown_at : Owned → ℕ → Shown
shown_at o slot = record {
  place = location_of o.program slot;
  value = value_at o slot (location_of o.program slot);
  is_forced = is_forced (saved o).forces (location_of o.program slot);
}

-- nothing is
abbrev pub nothing_shown : Shown
nothing_shown = record { place = None; value = None; is_forced = false }

-- ---- texts

abbrev pub quoted : List ℕ → List ℕ
quoted text = codes "\"" ++ (text ++ codes "\"")

abbrev pub place_json : Option Loc → List ℕ
place_json None = codes "null"
place_json (Some loc) = quoted (location_text loc)

-- a type and a value (IEC 61131-3:2003, 2.3.1)
abbrev pub typed_json : Option Value → List ℕ
typed_json None = codes "null,\"value\":null"
typed_json (Some v) = codes "\"" ++ (type_name (ty_of v) ++ (codes "\",\"value\":" ++ value_json v))

-- {"name":"START","place":"%IX0.0","forced":false,"type":"BOOL","value":1}, at this place of a list
abbrev pub entry_json : ℕ → List ℕ → Shown → List ℕ
entry_json number name shown = comma number
    ++ (codes "{\"name\":"
    ++ (string_json name
    ++ (codes ",\"place\":"
    ++ (place_json shown.place
    ++ (codes ",\"forced\":"
    ++ (flag_json shown.is_forced ++ (codes ",\"type\":" ++ (typed_json shown.value ++ codes "}"))))))))

abbrev pub variable_json : Owned → ℕ × Variable → List ℕ
variable_json o it = entry_json it.0 it.1.name (shown_at o (code_of (coded.Variable it.0)))

-- all variables, in the order of declaration
abbrev pub variables_json : Owned → List ℕ
variables_json o = flat_map (variable_json o) (enumerate_from 0 o.program.variables)

-- T1.ET
abbrev pub full_name : List ℕ → Field → List ℕ
full_name name field = name ++ (codes "." ++ field_name field)

-- a field of the instance with this number and this name
abbrev pub field_json : Owned → ℕ → List ℕ → ℕ × Field → List ℕ
field_json o instance name it =
    entry_json it.0 (full_name name it.1) (shown_at o (code_of (coded.Field instance it.0)))

abbrev pub fields_json : Owned → ℕ → List ℕ → BlockKind → List ℕ
fields_json o instance name kind = flat_map (field_json o instance name) (enumerate_from 0 (kind_fields kind))

abbrev pub instance_json : Owned → ℕ × Instance → List ℕ
instance_json o it = comma it.0
    ++ (codes "{\"name\":"
    ++ (string_json it.1.name
    ++ (codes ",\"type\":\""
    ++ (kind_name it.1.kind
    ++ (codes "\",\"fields\":[" ++ (fields_json o it.0 it.1.name it.1.kind ++ codes "]}"))))))

-- all instances with their fields, in the order of declaration
abbrev pub instances_json : Owned → List ℕ
instances_json o = flat_map (instance_json o) (enumerate_from 0 o.program.instances)

abbrev pub force_json : ℕ × ForcedSlot → List ℕ
force_json it = comma it.0
    ++ (codes "{\"place\":"
    ++ (place_json (any_loc it.1.slot.0) ++ (codes ",\"value\":" ++ (value_json it.1.value ++ codes "}"))))

-- what is forced, inputs before outputs, bits before words, also where no variable lies
abbrev pub forces_json : List ForcedSlot → List ℕ
forces_json forces = flat_map force_json (enumerate_from 0 forces)

abbrev pub break_json : ℕ × ℕ → List ℕ
break_json it = comma it.0 ++ decimal it.1

-- before which instructions scans are held, rising
abbrev pub breaks_json : List ℕ → List ℕ
breaks_json positions = flat_map break_json (enumerate_from 0 positions)

abbrev pub phase_name : SavedPhase → List ℕ
phase_name phases.Idle = codes "idle"
phase_name (phases.Held performed) = codes "held"
phase_name (phases.Stopped stop) = codes "stopped"

-- how many scans were begun, the greatest moment, in milliseconds, whether a scan is open, at which instruction it
-- stands, where breakpoints are, and what is forced
abbrev pub head_json : SavedController → List ℕ
head_json s = codes "{\"scans\":"
    ++ (decimal s.count
    ++ (codes ",\"moment\":"
    ++ (decimal s.moment
    ++ (codes ",\"phase\":\""
    ++ (phase_name s.phase
    ++ (codes "\",\"position\":"
    ++ (decimal s.position
    ++ (codes ",\"breaks\":["
    ++ (breaks_json s.breaks ++ (codes "],\"forces\":[" ++ (forces_json s.forces ++ codes "]")))))))))))

-- all that is seen of a controller
abbrev pub values_text : Owned → List ℕ
values_text o = head_json (saved o)
    ++ (codes ",\"variables\":["
    ++ (variables_json o ++ (codes "],\"instances\":[" ++ (instances_json o ++ codes "]}\n"))))

-- ---- by names

-- what is seen of the slot of a name
abbrev pub shown_of : Owned → Option Slot → Shown
shown_of o None = nothing_shown
shown_of o (Some slot) = shown_at o slot.0

abbrev pub watched_json : Owned → ℕ × String Global → List ℕ
watched_json o it =
    entry_json it.0 (string_bytes it.1) (shown_of o (slot_of o.program (string_bytes it.1)))

abbrev pub watched_in : Owned → List (String Global) → List ℕ
watched_in o names = flat_map (watched_json o) (enumerate_from 0 names)

-- what is seen of these names, in their order
abbrev pub known_text : Owned → List (String Global) → List ℕ
known_text o names = head_json (saved o)
    ++ (codes ",\"values\":[" ++ (watched_in o names ++ codes "]}\n"))

-- a name of no location, no variable and no field of the program
abbrev pub is_unknown : Program → String Global → Bool
is_unknown Q name = is_none (slot_of Q (string_bytes name))

abbrev pub unknown_text : String Global → List ℕ
unknown_text name = codes "plc: unknown name " ++ (string_json (string_bytes name) ++ codes "\n")

abbrev pub watch_by : Owned → List (String Global) → Option (String Global) → List ℕ
watch_by o names (Some name) = unknown_text name
watch_by o names None = known_text o names

-- that, or the first name that is unknown, and nothing else
abbrev pub watch_text : Owned → List (String Global) → List ℕ
watch_text o names = watch_by o names (find (is_unknown o.program) names)
