-- What a change of the program carries over: values by the names of variables, inputs and states by the names of
-- instances.
use Rattle.std.specs.Prelude.{◌≡◌, ℕ, Bool, ◌&&◌, List, [], map, Option, Some, None, slice_get, position, unwrap_or}
use Rattle.std.specs.Prelude.{nat_eq, if◌then◌else◌}
use Rattle.std.specs.Option.{option_and_then}
use Rattle.il_values.specs.declared.value.Value.{Value}
use Rattle.il_model.specs.declared.program.Variable.{Variable}
use Rattle.il_model.specs.declared.program.Instance.{Instance}
use Rattle.il_model.specs.Words.{same_name}
use Rattle.il_model.specs.Row.{same_type}
use Rattle.il_model.specs.Kinds.{kind_code}
use Rattle.il_model.specs.Program.{Program}
use Rattle.ctl_model.specs.declared.phase.Phase.TheVariants as phases
use Rattle.ctl_model.specs.State.{State, BlockInstance, has_own, cold_instance}
use Rattle.ctl_model.specs.Commands.{Control, no_breaks}

-- ---- what goes on

-- a variable of one program goes on as one of another: both have that name and that type, and neither has a location
pub record GoesOn (u v : Variable) : Type 0 where
  pub name : u.name ≡ v.name
  pub type : u.ty ≡ v.ty
  pub before : u.location ≡ None
  pub after : v.location ≡ None

-- an instance of one program goes on as one of another: both have that name and that kind
pub record GoesOnAs (x y : Instance) : Type 0 where
  pub name : x.name ≡ y.name
  pub kind : x.kind ≡ y.kind

-- the tests of these
abbrev pub goes_on : Variable → Variable → Bool
goes_on u v = same_name u.name v.name && (same_type u.ty v.ty && (has_own u && has_own v))

abbrev pub goes_on_as : Instance → Instance → Bool
goes_on_as x y = same_name x.name y.name && nat_eq (kind_code x.kind) (kind_code y.kind)

-- ---- what is kept

-- what stands beside the first that passes
abbrev pub kept_by : {X Y : Type 0} → (X → Bool) → List X → List Y → Option Y
kept_by passes xs ys = option_and_then (slice_get ys) (position passes xs)

-- the value of the variable that goes on as this one
abbrev pub kept_value : List Variable → List Value → Variable → Option Value
kept_value us own v = kept_by (λ u. goes_on u v) us own

-- the instance that goes on as this one, with its inputs and its state
abbrev pub kept_instance : List Instance → List BlockInstance → Instance → Option BlockInstance
kept_instance xs bs y = kept_by (λ x. goes_on_as x y) xs bs

-- the place that is told, if what stands there passes
abbrev pub placed_by : {X : Type 0} → (X → Bool) → List X → Option ℕ → Option ℕ
placed_by passes xs place =
    option_and_then (λ i. option_and_then (λ x. if passes x then Some i else None) (slice_get xs i)) place

-- a kept value, or else the variable's first value
abbrev pub carried_value : List Variable → List Value → Variable → Value
carried_value us own v = unwrap_or (kept_value us own v) v.initial

abbrev pub carried_instance : List Instance → List BlockInstance → Instance → BlockInstance
carried_instance xs bs y = unwrap_or (kept_instance xs bs y) (cold_instance y)

-- what a state of one program is in another, between two scans: the areas stay
abbrev pub carried_state : Program → State → Program → State
carried_state Q s R = record {
  own = map (carried_value Q.variables s.own) R.variables;
  instances = map (carried_instance Q.instances s.instances) R.instances;
  input = s.input;
  output = s.output;
  memory = s.memory;
  cr = None;
  kept = [];
  position = 0;
}

-- forces, moment and count stay; no breakpoint does, and no scan is open
abbrev pub carried_control : Program → Control → Program → Control
carried_control Q s R = record {
  cycle = record s.cycle { state = carried_state Q s.cycle.state R; performed = 0 };
  breaks = no_breaks R;
  phase = phases.Idle;
}

-- ---- the same, said of two states by the names of their programs

-- A state of one program becomes one of another: what goes on keeps its value, or its inputs and its state; all else
-- that has no location is as when cold; the areas stay.
pub record CarriesOver (Q : Program) (s : State) (R : Program) (t : State) : Type 0 where
  pub kept : (i j : ℕ) (u v : Variable) → slice_get Q.variables i ≡ Some u → slice_get R.variables j ≡ Some v
      → GoesOn u v → slice_get t.own j ≡ slice_get s.own i
  pub first : (j : ℕ) (v : Variable) → slice_get R.variables j ≡ Some v
      → ((i : ℕ) (u : Variable) → slice_get Q.variables i ≡ Some u → GoesOn u v → ⊥)
      → slice_get t.own j ≡ Some v.initial
  pub kept_instances : (i j : ℕ) (x y : Instance) → slice_get Q.instances i ≡ Some x → slice_get R.instances j ≡ Some y
      → GoesOnAs x y → slice_get t.instances j ≡ slice_get s.instances i
  pub cold_instances : (j : ℕ) (y : Instance) → slice_get R.instances j ≡ Some y
      → ((i : ℕ) (x : Instance) → slice_get Q.instances i ≡ Some x → GoesOnAs x y → ⊥)
      → slice_get t.instances j ≡ Some (cold_instance y)
  pub input : t.input ≡ s.input
  pub output : t.output ≡ s.output
  pub memory : t.memory ≡ s.memory
