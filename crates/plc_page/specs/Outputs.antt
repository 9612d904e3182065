-- Under which names the outputs show: those of variables that lie there, and of variables of instances that are handed
-- over there, as M7.RUNS by CAL M7(RUNS => %QX0.6), which the program has as LD M7.RUNS, ST %QX0.6.
use Rattle.std.specs.Prelude.{ℕ, ◌==◌, Bool, true, false, not, ◌&&◌, if◌then◌else◌, List, [], ◌∷◌, ◌++◌, fold}
use Rattle.std.specs.Prelude.{Option, Some, None}
use Rattle.std.specs.List.{flat_map, list_any}
use Rattle.il_values.specs.declared.op.Op.{Op}
use Rattle.il_values.specs.declared.op.Op.TheVariants as ops
use Rattle.il_values.specs.declared.op.Modifier.{Modifier}
use Rattle.il_model.specs.declared.program.Area.{Area}
use Rattle.il_model.specs.declared.program.Area.TheVariants as areas
use Rattle.il_model.specs.declared.program.DoubleType.TheVariants as doubles
use Rattle.il_model.specs.declared.program.Instr.{Instr}
use Rattle.il_model.specs.declared.program.Loc.{Loc}
use Rattle.il_model.specs.declared.program.Loc.TheVariants as places
use Rattle.il_model.specs.declared.program.Operand.{Operand}
use Rattle.il_model.specs.declared.program.Operand.TheVariants as operands
use Rattle.il_model.specs.declared.program.Variable.{Variable}
use Rattle.il_model.specs.CodedOperands.{loc_code}
use Rattle.il_model.specs.Locations.{area_of}
use Rattle.il_model.specs.Program.{Program}
use Rattle.il_model.specs.Words.{has_dot}
use Rattle.plc_page.specs.declared.outputs.Named.{Named}

-- a name and its place
abbrev pub spelt : Named → List ℕ × Loc
spelt named = (named.name.items, named.place)

abbrev pub spelt_option : Option Named → List (List ℕ × Loc)
spelt_option None = []
spelt_option (Some named) = spelt named ∷ []

abbrev pub is_output : Area → Bool
is_output areas.Output = true
is_output area = false

-- a name that has this place, if that is among the outputs
abbrev pub output_of : List ℕ → Option Loc → List (List ℕ × Loc)
output_of name None = []
output_of name (Some place) = if is_output (area_of place) then (name, place) ∷ [] else []

-- ---- what is handed over

-- an operator has no letters
abbrev pub is_plain : Modifier → Bool
is_plain modifier = not modifier.negated && not modifier.conditional && not modifier.opens

abbrev pub loads : Op → Bool
loads ops.Ld = true
loads op = false

abbrev pub stores : Op → Bool
stores ops.St = true
stores op = false

abbrev pub is_load : Instr → Bool
is_load instr = loads instr.op && is_plain instr.modifier

-- it has no label, since there is no current result at one: what is stored is what the instruction before it left
abbrev pub is_store : Instr → Bool
is_store instr = stores instr.op && is_plain instr.modifier

-- a variable of an instance has a dot in its name
abbrev pub passed : Operand → Operand → List (List ℕ × Loc)
passed (operands.Variable name) (operands.Direct place) = if has_dot name then output_of name (Some place) else []
passed from to = []

abbrev pub handed : Instr → List Instr → List (List ℕ × Loc)
handed instr [] = []
handed instr (next ∷ behind) = if is_load instr && is_store next then passed instr.operand next.operand else []

-- the variables of instances that instructions hand over to outputs, in their order
abbrev pub handed_in : List Instr → List (List ℕ × Loc)
handed_in [] = []
handed_in (instr ∷ behind) = handed instr behind ++ handed_in behind

-- ---- which names show

-- a place as an instruction names it, where a word is INT and a double word DINT
abbrev pub as_named : Loc → Loc
as_named (places.Bit area number) = places.Bit area number
as_named (places.Word area number) = places.Word area number
as_named (places.Pattern area number) = places.Word area number
as_named (places.Double area number t) = places.Double area number doubles.Dint

abbrev pub is_same : Loc → Loc → Bool
is_same place other = loc_code (as_named place) == loc_code (as_named other)

abbrev pub is_shown : List (List ℕ × Loc) → Loc → Bool
is_shown names place = list_any (λ it. is_same it.1 place) names

-- one more name, unless its place shows under another one
abbrev pub with_new : List (List ℕ × Loc) → List ℕ × Loc → List (List ℕ × Loc)
with_new names it = if is_shown names it.1 then names else names ++ it ∷ []

abbrev pub declared_output : Variable → List (List ℕ × Loc)
declared_output variable = output_of variable.name variable.location

-- Those of the variables that lie there, in the order in which they are declared. An output where none does, but to
-- which variables of instances are handed over, shows under the first one's.
abbrev pub named_outputs : Program → List (List ℕ × Loc)
named_outputs program = fold with_new (flat_map declared_output program.variables) (handed_in program.code)
