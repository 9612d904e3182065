-- A warm start (IEC 61131-3:2003, 2.4.2): what is retained goes on, and all else begins as when cold.
use Rattle.std.specs.Prelude.{◌≡◌, ℕ, List, [], ◌∷◌, map, filter, Option, Some, None, slice_get, unwrap_or, false}
use Rattle.std.specs.Prelude.{if◌then◌else◌}
use Rattle.std.specs.List.{AllByRecursion}
use Rattle.std.specs.Option.{option_and_then}
use Rattle.il_values.specs.declared.value.Value.{Value}
use Rattle.il_model.specs.declared.program.Area.{Area}
use Rattle.il_model.specs.declared.program.Area.TheVariants as areas
use Rattle.il_model.specs.declared.program.Loc.{Loc}
use Rattle.il_model.specs.declared.program.Variable.{Variable}
use Rattle.il_model.specs.declared.program.Instance.{Instance}
use Rattle.il_model.specs.declared.cells.Cells.{Cells}
use Rattle.il_model.specs.Locations.{area_of}
use Rattle.il_model.specs.Codes.{is_overlapped}
use Rattle.il_model.specs.Program.{Program}
use Rattle.ctl_model.specs.State.{State, BlockInstance, cells_of, value_in, first_cells, cold_instance, cold, at_rest}

-- ---- the state behind it

-- a variable's own value: the one that it had where it's retained, else its first one
abbrev pub warm_value : Variable → Value → Value
warm_value v value = if v.retained then value else v.initial

-- those of variables, in order
abbrev pub warm_values : List Variable → List Value → List Value
warm_values (v ∷ vs) (value ∷ values) = warm_value v value ∷ warm_values vs values
warm_values vs values = []

-- an instance: as it was where it's retained, else as if it was never called
abbrev pub warm_instance : Instance → BlockInstance → BlockInstance
warm_instance x state = if x.retained then state else cold_instance x

abbrev pub warm_instances : List Instance → List BlockInstance → List BlockInstance
warm_instances (x ∷ xs) (state ∷ states) = warm_instance x state ∷ warm_instances xs states
warm_instances xs states = []

-- the value that a variable at a location begins with: the one that it had among these cells where it's retained, else
-- its first one
abbrev pub warm_first : Cells → Variable → Value
warm_first c v = if v.retained then unwrap_or (option_and_then (value_in c) v.location) v.initial else v.initial

-- the cells of an area, by those before
abbrev pub warm_cells : Area → Cells → List Variable → Cells
warm_cells area c vs = first_cells area (map (λ (v : Variable). record v { initial = warm_first c v }) vs)

-- as when cold, but for what is retained
abbrev pub warm : Program → State → State
warm Q s = record (cold Q) {
  own = warm_values Q.variables s.own;
  instances = warm_instances Q.instances s.instances;
  input = warm_cells areas.Input s.input Q.variables;
  output = warm_cells areas.Output s.output Q.variables;
  memory = warm_cells areas.Memory s.memory Q.variables;
}

-- ---- the same, said of each variable, each instance and each cell

-- the value of the i-th variable, which lies there: its own, or the one at its location
abbrev pub value_of : State → ℕ → Option Loc → Option Value
value_of s i None = slice_get s.own i
value_of s i (Some loc) = value_in (cells_of s (area_of loc)) loc

-- A retained variable has the value that it had, and a retained instance its inputs and its state. Every other one is as
-- when cold, and so is each location of which no retained variable has a part. No scan is open.
pub record StartsWarm (Q : Program) (s t : State) : Type 0 where
  pub variables : (i : ℕ) (v : Variable) → slice_get Q.variables i ≡ Some v
      → value_of t i v.location ≡ value_of (if v.retained then s else cold Q) i v.location
  pub instances : (i : ℕ) (x : Instance) → slice_get Q.instances i ≡ Some x
      → slice_get t.instances i ≡ slice_get (if x.retained then s else cold Q).instances i
  pub elsewhere : (loc : Loc) → is_overlapped (filter (λ v. v.retained) Q.variables) loc ≡ false
      → value_in (cells_of t (area_of loc)) loc ≡ value_in (cells_of (cold Q) (area_of loc)) loc
  pub rest : t ≡ at_rest t

-- a program of which nothing is retained
pub record RetainsNothing (Q : Program) : Type 0 where
  pub variables : AllByRecursion (λ (v : Variable). v.retained ≡ false) Q.variables
  pub instances : AllByRecursion (λ (x : Instance). x.retained ≡ false) Q.instances
