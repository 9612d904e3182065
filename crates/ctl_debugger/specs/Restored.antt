-- What a snapshot is restored to.
use Rattle.std.specs.Prelude.{◌≡◌, ℕ, Bool, true, false, Result, Ok, Err, ◌⊎◌}
use Rattle.il_model.specs.Snapshots.{SavedController}
use Rattle.il_model.specs.Program.{Program}
use Rattle.ctl_model.specs.Snapshots.{snapshot_of, fits}
use Rattle.ctl_scan.specs.Kept.{HaveBlocks, HasNoState}
use Rattle.ctl_debugger.specs.declared.snap_error.SnapError.{SnapError}
use Rattle.ctl_debugger.specs.declared.snap_error.SnapError.TheVariants.{BadBlock, BadShape, Memory}
use Rattle.ctl_debugger.specs.Owned.{Owned, IsController}

abbrev pub error_number : SnapError → ℕ
error_number BadBlock = 1
error_number BadShape = 2
error_number Memory = 3

-- the controller of a program and a budget that a snapshot is of
pub record IsRestored (Q : Program) (budget : ℕ) (s : SavedController) (c : Owned) : Type 0 where
  pub program : c.program ≡ Q
  pub budget_is : c.budget ≡ budget
  pub saved : snapshot_of Q c.control ≡ s
  pub fits : fits Q budget s ≡ true
  pub lawful : IsController c

-- a snapshot that doesn't fit is a bad shape; one that fits is a bad block where the words of a block are no state; any
-- other has a controller, unless memory runs out
abbrev pub Restores : Program → ℕ → SavedController → Result Owned SnapError → Type 0
Restores Q budget s (Ok c) = IsRestored Q budget s c
Restores Q budget s (Err BadShape) = fits Q budget s ≡ false
Restores Q budget s (Err BadBlock) = (fits Q budget s ≡ true) × HasNoState s.instances
Restores Q budget s (Err Memory) = (fits Q budget s ≡ true) × HaveBlocks s.instances

-- whether a snapshot has a controller: then nothing but memory refuses it
abbrev pub CanRestore : Program → ℕ → SavedController → Bool → Type 0
CanRestore Q budget s true = Restores Q budget s (Err Memory)
CanRestore Q budget s false = Restores Q budget s (Err BadShape) ⊎ Restores Q budget s (Err BadBlock)

-- the same controller, unless memory runs out
abbrev pub IsSame : Owned → Result Owned SnapError → Type 0
IsSame o (Ok c) = c ≡ o
IsSame o (Err e) = e ≡ Memory

-- what is saved of a controller is restored, with the same program and budget, to the same controller, unless memory
-- runs out
abbrev pub RestoresTheSame : Owned → Result Owned SnapError → Type 0
RestoresTheSame o r = IsController o → Restores o.program o.budget (snapshot_of o.program o.control) r → IsSame o r
