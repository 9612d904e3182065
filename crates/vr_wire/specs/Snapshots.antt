-- The one spelling of a controller's snapshot: first the image of its program. A list is its length, then its items.
use Rattle.std.specs.Prelude.{◌≡◌, ℕ, ◌+◌, ◌^◌, ◌<◌, ◌≤◌, Bool, true, ◌&&◌, nat_le, List, [], ◌∷◌, ◌++◌, length, map}
use Rattle.std.specs.Prelude.{Option, Some, None, is_some}
use Rattle.std.specs.List.{flat_map, AllByRecursion}
use Rattle.std.specs.Int.{w8, w16, w32, w64, to_be_bytes}
use Rattle.il_model.specs.declared.limits.TheConstants.{MOST_OPEN_PARENTHESES}
use Rattle.il_values.specs.declared.value.Value.{Value}
use Rattle.il_model.specs.declared.cells.Cells.{Cells}
use Rattle.il_values.specs.declared.op.Op.{Op}
use Rattle.il_model.specs.declared.fetched.Deferred.{Deferred}
use Rattle.il_model.specs.declared.snapshot.ForcedSlot.{ForcedSlot}
use Rattle.il_model.specs.declared.snapshot.SavedPhase.{SavedPhase}
use Rattle.il_model.specs.declared.snapshot.SavedPhase.TheVariants as phases
use Rattle.il_model.specs.Snapshots.{SavedBlock, SavedController}
use Rattle.il_model.specs.Kinds.{kind_code, input_count}
use Rattle.il_values.specs.OpCodes.{op_code}
use Rattle.il_model.specs.Codes.{letters_of}
use Rattle.il_values.specs.Stops.{stop_number}
use Rattle.vr_wire.specs.Fields.{listed, counted, value_bytes, bit_number, cells_bytes, FitsValue, FitsCells}

-- ---- the open scan: its phase, why it stopped, where it is, how many instructions it has performed

abbrev pub phase_code : SavedPhase → ℕ
phase_code phases.Idle = 0
phase_code (phases.Held performed) = 1
phase_code (phases.Stopped stop) = 2

abbrev pub phase_stop : SavedPhase → ℕ
phase_stop phases.Idle = 0
phase_stop (phases.Held performed) = 0
phase_stop (phases.Stopped stop) = stop_number stop

abbrev pub phase_performed : SavedPhase → ℕ
phase_performed phases.Idle = 0
phase_performed (phases.Held performed) = performed
phase_performed (phases.Stopped stop) = 0

abbrev pub phase_bytes : SavedPhase → ℕ → List ℕ
phase_bytes phase position = to_be_bytes w8 (phase_code phase)
    ++ (to_be_bytes w8 (phase_stop phase) ++ (to_be_bytes w16 position ++ to_be_bytes w32 (phase_performed phase)))

-- none, or a value
abbrev pub result_bytes : Option Value → List ℕ
result_bytes None = to_be_bytes w8 0
result_bytes (Some v) = to_be_bytes w8 1 ++ value_bytes v

abbrev pub deferred_bytes : Deferred → List ℕ
deferred_bytes d = to_be_bytes w8 (op_code d.op) ++ (to_be_bytes w8 (bit_number d.negated) ++ result_bytes (Some d.cr))

abbrev pub scan_bytes : SavedPhase → ℕ → Option Value → List Deferred → List ℕ
scan_bytes phase position cr deferred = phase_bytes phase position
    ++ (result_bytes cr ++ listed w8 deferred_bytes deferred)

-- ---- the three areas, and the tables

abbrev pub areas_bytes : Cells → Cells → Cells → List ℕ
areas_bytes input output memory = cells_bytes input ++ (cells_bytes output ++ cells_bytes memory)

-- how many inputs it has is known by its kind
abbrev pub block_bytes : SavedBlock → List ℕ
block_bytes b = to_be_bytes w8 (kind_code b.kind)
    ++ (flat_map value_bytes b.inputs ++ flat_map (to_be_bytes w64) b.words)

abbrev pub force_bytes : ForcedSlot → List ℕ
force_bytes f = to_be_bytes w16 f.slot.0 ++ value_bytes f.value

abbrev pub tables_bytes : List Value → List SavedBlock → List ℕ → List ForcedSlot → List ℕ
tables_bytes variables instances breaks forces = listed w16 value_bytes variables
    ++ (listed w16 block_bytes instances ++ (listed w16 (to_be_bytes w16) breaks ++ listed w16 force_bytes forces))

abbrev pub snapshot_bytes : SavedController → List ℕ
snapshot_bytes s =
    counted w32 s.image ++ (to_be_bytes w64 s.count ++ (to_be_bytes w64 s.moment ++ (
    scan_bytes s.phase s.position s.cr s.deferred ++ (
    areas_bytes s.input s.output s.memory ++
    tables_bytes s.variables s.instances s.breaks s.forces))))

-- ---- which snapshots have a spelling

-- from that number on, each above the one before it
abbrev pub rises_from : ℕ → List ℕ → Bool
rises_from n [] = true
rises_from n (x ∷ xs) = nat_le n x && rises_from (x + 1) xs

-- an operator that can stand before a parenthesis
abbrev pub may_open : Op → Bool
may_open op = is_some (letters_of op 4)

abbrev pub IsOpening : Deferred → Type 0
IsOpening d = may_open d.op ≡ true

-- where no scan is open there is no position, no current result and nothing deferred
abbrev pub IsAtRest : SavedPhase → ℕ → Option Value → List Deferred → Type 0
IsAtRest phases.Idle position cr deferred = (position ≡ 0) × (cr ≡ None) × (deferred ≡ [])
IsAtRest (phases.Held performed) position cr deferred = Unit {0}
IsAtRest (phases.Stopped stop) position cr deferred = Unit {0}

pub record IsScan (phase : SavedPhase) (position : ℕ) (cr : Option Value) (deferred : List Deferred) : Type 0 where
  pub depth : length deferred ≤ MOST_OPEN_PARENTHESES
  pub opening : AllByRecursion IsOpening deferred
  pub at_rest : IsAtRest phase position cr deferred

-- it has as many inputs as its kind
abbrev pub IsBlock : SavedBlock → Type 0
IsBlock b = length b.inputs ≡ input_count b.kind

abbrev pub slot_code : ForcedSlot → ℕ
slot_code f = f.slot.0

pub record IsTables (variables : List Value) (instances : List SavedBlock) (breaks : List ℕ)
    (forces : List ForcedSlot) : Type 0 where
  pub variables_short : length variables < 2 ^ 16
  pub instances_short : length instances < 2 ^ 16
  pub blocks : AllByRecursion IsBlock instances
  pub breaks_short : length breaks < 2 ^ 16
  pub breaks_rise : rises_from 0 breaks ≡ true
  pub forces_short : length forces < 2 ^ 16
  pub forces_rise : rises_from 0 (map slot_code forces) ≡ true

pub record IsSnapshot (s : SavedController) : Type 0 where
  pub image : length s.image < 2 ^ 32
  pub scan : IsScan s.phase s.position s.cr s.deferred
  pub tables : IsTables s.variables s.instances s.breaks s.forces

-- ---- each number is within its field, as those of a snapshot of the code are

abbrev pub FitsPhase : SavedPhase → Type 0
FitsPhase phases.Idle = Unit {0}
FitsPhase (phases.Held performed) = performed < 2 ^ 32
FitsPhase (phases.Stopped stop) = Unit {0}

abbrev pub FitsResult : Option Value → Type 0
FitsResult None = Unit {0}
FitsResult (Some v) = FitsValue v

abbrev pub FitsDeferred : Deferred → Type 0
FitsDeferred d = FitsValue d.cr

pub record FitsScan (p : SavedPhase) (n : ℕ) (result : Option Value) (ds : List Deferred) : Type 0 where
  pub phase : FitsPhase p
  pub position : n < 2 ^ 16
  pub cr : FitsResult result
  pub deferred : AllByRecursion FitsDeferred ds

pub record FitsAreas (i q m : Cells) : Type 0 where
  pub input : FitsCells i
  pub output : FitsCells q
  pub memory : FitsCells m

pub record FitsBlock (b : SavedBlock) : Type 0 where
  pub inputs : AllByRecursion FitsValue b.inputs
  pub four : length b.words ≡ 4
  pub words : AllByRecursion (λ word. word < 2 ^ 64) b.words

pub record FitsForce (f : ForcedSlot) : Type 0 where
  pub slot : f.slot.0 < 2 ^ 16
  pub value : FitsValue f.value

pub record FitsTables (vs : List Value) (bs : List SavedBlock) (ps : List ℕ) (fs : List ForcedSlot) : Type 0 where
  pub variables : AllByRecursion FitsValue vs
  pub instances : AllByRecursion FitsBlock bs
  pub breaks : AllByRecursion (λ position. position < 2 ^ 16) ps
  pub forces : AllByRecursion FitsForce fs

pub record FitsSnapshot (s : SavedController) : Type 0 where
  pub count : s.count < 2 ^ 64
  pub moment : s.moment < 2 ^ 64
  pub scan : FitsScan s.phase s.position s.cr s.deferred
  pub areas : FitsAreas s.input s.output s.memory
  pub tables : FitsTables s.variables s.instances s.breaks s.forces
