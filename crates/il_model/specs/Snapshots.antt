-- A snapshot of a controller, as its definitions see it.
use Rattle.std.specs.Prelude.{ℕ, List, Option}
use Rattle.il_values.specs.declared.value.Value.{Value}
use Rattle.il_model.specs.declared.kind.BlockKind.{BlockKind}
use Rattle.il_model.specs.declared.cells.Cells.{Cells}
use Rattle.il_model.specs.declared.fetched.Deferred.{Deferred}
use Rattle.il_model.specs.declared.snapshot.ForcedSlot.{ForcedSlot}
use Rattle.il_model.specs.declared.snapshot.SavedPhase.{SavedPhase}

pub record SavedBlock : Type 0 where
  pub kind : BlockKind
  -- the values of the inputs, in the order of the kind's fields
  pub inputs : List Value
  pub words : List ℕ

pub record SavedController : Type 0 where
  -- the bytes of the image of the program in force
  pub image : List ℕ
  -- of the variables without a location, in order
  pub variables : List Value
  pub instances : List SavedBlock
  pub input : Cells
  pub output : Cells
  pub memory : Cells
  pub cr : Option Value
  -- the outermost first
  pub deferred : List Deferred
  pub position : ℕ
  pub count : ℕ
  pub moment : ℕ
  -- rising by slot
  pub forces : List ForcedSlot
  -- positions, rising
  pub breaks : List ℕ
  pub phase : SavedPhase
