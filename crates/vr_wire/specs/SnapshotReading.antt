-- Reading a snapshot from left to right: the inverse of its spelling.
use Rattle.std.specs.Prelude.{ℕ, zero, suc, ◌==◌, Bool, true, false, ◌&&◌, nat_le, List, [], ◌∷◌, length, map}
use Rattle.std.specs.Prelude.{slice_get, Option, Some, None, is_none}
use Rattle.std.specs.Int.{w8, w16, w32, w64}
use Rattle.il_model.specs.declared.limits.TheConstants.{MOST_OPEN_PARENTHESES}
use Rattle.il_values.specs.declared.value.Value.{Value}
use Rattle.il_model.specs.declared.cells.Cells.{Cells}
use Rattle.il_values.specs.declared.op.Op.{Op}
use Rattle.il_model.specs.declared.kind.BlockKind.{BlockKind}
use Rattle.il_model.specs.declared.fetched.Deferred.{Deferred}
use Rattle.il_model.specs.declared.snapshot.ForcedSlot.{ForcedSlot}
use Rattle.il_model.specs.declared.snapshot.SavedPhase.{SavedPhase}
use Rattle.il_model.specs.declared.snapshot.SavedPhase.TheVariants as phases
use Rattle.il_model.specs.Snapshots.{SavedBlock, SavedController}
use Rattle.il_model.specs.Kinds.{kind_of_code, input_count}
use Rattle.il_values.specs.OpCodes.{op_of}
use Rattle.vr_wire.specs.Snapshots.{may_open, rises_from, slot_code}
use Rattle.vr_wire.specs.Reading.{◌>>=◌, Reader, number_at, fields_0, fields_1, fields_2, fields_3, fields_4, items_at}
use Rattle.vr_wire.specs.Reading.{listed_at, counted_at, lawful, passed, tagged, cells_at, value_at, slot_at, stop_of}

-- ---- the open scan

-- the phase with this code, this stop and so many instructions performed
abbrev pub phase_of : ℕ → ℕ → ℕ → Option SavedPhase
phase_of zero zero zero = Some phases.Idle
phase_of (suc zero) zero performed = Some (phases.Held performed)
phase_of (suc (suc zero)) stop zero = stop_of stop >>= λ s. Some (phases.Stopped s)
phase_of code stop performed = None

pub record PhaseNumbers : Type 0 where
  pub code : ℕ
  pub stop : ℕ
  pub position : ℕ
  pub performed : ℕ

pub record Placed : Type 0 where
  pub phase : SavedPhase
  pub position : ℕ

abbrev pub placed_of : PhaseNumbers → Option Placed
placed_of n = phase_of n.code n.stop n.performed >>= λ phase. Some (record { phase = phase; position = n.position })

abbrev pub numbers_at : Reader PhaseNumbers
numbers_at bytes = fields_4
    (λ code stop position performed. record { code = code; stop = stop; position = position; performed = performed })
    (number_at w8) (number_at w8) (number_at w16) (number_at w32) bytes

abbrev pub placed_at : Reader Placed
placed_at bytes = lawful placed_of numbers_at bytes

abbrev pub result_readers : List (Reader (Option Value))
result_readers = fields_0 None ∷ fields_1 Some value_at ∷ []

abbrev pub result_at : Reader (Option Value)
result_at bytes = tagged result_readers bytes

abbrev pub opening : ℕ → Option Op
opening n = op_of n >>= passed may_open

abbrev pub truth_of : ℕ → Option Bool
truth_of n = slice_get (false ∷ true ∷ []) n

-- a current result that is there
abbrev pub there : Option Value → Option Value
there cr = cr

abbrev pub deferred_at : Reader Deferred
deferred_at bytes = fields_3 (λ op negated cr. record { op = op; negated = negated; cr = cr })
    (lawful opening (number_at w8)) (lawful truth_of (number_at w8)) (lawful there result_at) bytes

abbrev pub is_depth : ℕ → Bool
is_depth n = nat_le n MOST_OPEN_PARENTHESES

abbrev pub deferred_list_at : Reader (List Deferred)
deferred_list_at bytes = listed_at (lawful (passed is_depth) (number_at w8)) deferred_at bytes

pub record OpenScan : Type 0 where
  pub phase : SavedPhase
  pub position : ℕ
  pub cr : Option Value
  pub deferred : List Deferred

abbrev pub is_at_rest : SavedPhase → ℕ → Option Value → List Deferred → Bool
is_at_rest phases.Idle position cr deferred = (position == 0) && (is_none cr && (length deferred == 0))
is_at_rest (phases.Held performed) position cr deferred = true
is_at_rest (phases.Stopped stop) position cr deferred = true

abbrev pub is_scan : OpenScan → Bool
is_scan scan = is_at_rest scan.phase scan.position scan.cr scan.deferred

abbrev pub any_scan_at : Reader OpenScan
any_scan_at bytes = fields_3
    (λ placed cr deferred. record {
      phase = placed.phase;
      position = placed.position;
      cr = cr;
      deferred = deferred;
    }) placed_at result_at deferred_list_at bytes

abbrev pub scan_at : Reader OpenScan
scan_at bytes = lawful (passed is_scan) any_scan_at bytes

-- ---- the areas and the tables

pub record Areas : Type 0 where
  pub input : Cells
  pub output : Cells
  pub memory : Cells

abbrev pub areas_at : Reader Areas
areas_at bytes = fields_3
    (λ input output memory. record { input = input; output = output; memory = memory }) cells_at cells_at cells_at bytes

-- the inputs and the words of a block of that kind
abbrev pub parts_of_at : BlockKind → Reader SavedBlock
parts_of_at kind bytes =
    fields_2 (λ inputs words. record { kind = kind; inputs = inputs; words = words })
    (items_at value_at (input_count kind)) (items_at (number_at w64) 4) bytes

abbrev pub block_at : Reader SavedBlock
block_at bytes = lawful kind_of_code (number_at w8) bytes >>= λ kind. parts_of_at kind.0 kind.1

abbrev pub force_at : Reader ForcedSlot
force_at bytes = fields_2 (λ slot value. record { slot = slot; value = value }) slot_at value_at bytes

abbrev pub breaks_at : Reader (List ℕ)
breaks_at bytes = lawful (passed (rises_from 0)) (listed_at (number_at w16) (number_at w16)) bytes

abbrev pub slots_rise : List ForcedSlot → Bool
slots_rise forces = rises_from 0 (map slot_code forces)

abbrev pub forces_at : Reader (List ForcedSlot)
forces_at bytes = lawful (passed slots_rise) (listed_at (number_at w16) force_at) bytes

pub record Tables : Type 0 where
  pub variables : List Value
  pub instances : List SavedBlock
  pub breaks : List ℕ
  pub forces : List ForcedSlot

abbrev pub tables_at : Reader Tables
tables_at bytes = fields_4
    (λ variables instances breaks forces. record {
      variables = variables;
      instances = instances;
      breaks = breaks;
      forces = forces;
    }) (listed_at (number_at w16) value_at)
    (listed_at (number_at w16) block_at) breaks_at forces_at bytes

-- ---- the whole

abbrev pub snapshot_of : List ℕ → ℕ → ℕ → OpenScan → Areas → Tables → SavedController
snapshot_of image count moment scan areas tables = record {
  image = image;
  variables = tables.variables;
  instances = tables.instances;
  input = areas.input;
  output = areas.output;
  memory = areas.memory;
  cr = scan.cr;
  deferred = scan.deferred;
  position = scan.position;
  count = count;
  moment = moment;
  forces = tables.forces;
  breaks = tables.breaks;
  phase = scan.phase;
}

abbrev pub snapshot_at : Reader SavedController
snapshot_at bytes = counted_at (number_at w32) bytes >>= λ image. number_at w64 image.1 >>= λ count. fields_4
    (snapshot_of image.0 count.0) (number_at w64) scan_at areas_at tables_at count.1
