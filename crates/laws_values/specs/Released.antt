-- Outputs that are seen of a controller are those that it released.
use Rattle.std.specs.Prelude.{◌≡◌, Option, Some, None, IfSome}
use Rattle.il_model.specs.declared.cells.Cells.{Cells}
use Rattle.il_model.specs.declared.command.Answer.{Answer}
use Rattle.il_model.specs.declared.command.Answer.TheVariants as answers
use Rattle.il_model.specs.declared.command.Command.{Command}
use Rattle.il_model.specs.Locations.{clear_cells}
use Rattle.ctl_model.specs.declared.phase.Phase.{Phase}
use Rattle.ctl_model.specs.declared.phase.Phase.TheVariants as phases
use Rattle.ctl_model.specs.Forces.{with_forces}
use Rattle.ctl_scan.specs.Kept.{AreMasks}
use Rattle.ctl_debugger.specs.Outcome.{outcome}
use Rattle.ctl_debugger.specs.Owned.{Owned}
use Rattle.plc_values.specs.Values.{released, saved}

-- these outputs, unless the controller is stopped: then all FALSE and 0
abbrev pub unless_stopped : Phase → Cells → Cells
unless_stopped (phases.Stopped stop) cells = clear_cells
unless_stopped phase cells = cells

-- %Q with the forces over it, as a scan lays them over at its end; forces have a place for each cell, as those of each
-- controller have
abbrev pub SeesForces : Owned → Type 0
SeesForces o = AreMasks o.control.cycle.forces
    → released (saved o)
    ≡ unless_stopped o.control.phase (with_forces o.control.cycle.forces.output o.control.cycle.state.output)

-- what an answer releases, if it releases outputs
abbrev pub outputs_in : Answer → Option Cells
outputs_in (answers.Outputs count image) = Some image.cells
outputs_in (answers.Stopped stop position image) = Some image.cells
outputs_in answer = None

-- behind a command that was answered with outputs, they are what is seen
abbrev pub SeesWhatWasReleased : Owned → Command → Type 0
SeesWhatWasReleased o command = AreMasks o.control.cycle.forces
    → IfSome (outputs_in (outcome o command).0) (λ cells. released (saved (outcome o command).1) ≡ cells)
