-- That what is told is of one controller.
use Rattle.std.specs.Prelude.{◌≡◌, List, ℕ}
use Rattle.il_model.specs.declared.cells.Cells.{Cells}
use Rattle.il_model.specs.Snapshots.{SavedController}
use Rattle.ctl_debugger.specs.Owned.{Owned}
use Rattle.plc_values.specs.Values.{released, saved}

-- what is kept of a controller to look at: it, what is saved of it, and its outputs as they would be released
pub record IsSeen (o : Owned) (s : SavedController) (outputs : Cells) : Type 0 where
  pub is : s ≡ saved o
  pub outputs_are : outputs ≡ released s

-- All of a text is told of one controller, which this snapshot is of: as it was between two of its commands.
pub record IsToldOf (s : SavedController) (text_of : Owned → List ℕ) (text : List ℕ) : Type 0 where
  pub controller : Owned
  pub snapshot : s ≡ saved controller
  pub told : text ≡ text_of controller
