-- What a controller owns, and what always holds of it.
use Rattle.std.specs.Prelude.{◌≡◌, ◌<◌, ℕ, Bool, List, length}
use Rattle.il_model.specs.declared.command.Answer.{Answer}
use Rattle.il_model.specs.Program.{Program}
use Rattle.ctl_model.specs.declared.phase.Phase.{Phase}
use Rattle.ctl_model.specs.declared.phase.Phase.TheVariants as phases
use Rattle.ctl_model.specs.State.{at_rest}
use Rattle.ctl_model.specs.Scan.{Cycle}
use Rattle.ctl_model.specs.Suits.{Suits}
use Rattle.ctl_model.specs.Commands.{Control, cold_control}
use Rattle.ctl_scan.specs.Kept.{AreLawful, KeptCycle, IsCycleOf, AreMasks}

pub record Owned : Type 0 where
  pub program : Program
  -- how many instructions a scan may perform
  pub budget : ℕ
  pub control : Control

-- what a controller owns that never ran
abbrev pub cold_owned : Program → ℕ → Owned
cold_owned Q budget = record { program = Q; budget = budget; control = cold_control Q }

-- an answer, and what is owned with the control that is left
abbrev pub with_control : Owned → Answer × Control → Answer × Owned
with_control o x = (x.0, record o { control = x.1 })

-- while no scan is open the machine is at rest; an open one is before an instruction; only a held one counts what it
-- performed
abbrev pub IsOpen : Program → Phase → Cycle → Type 0
IsOpen Q phases.Idle c = (c.state ≡ at_rest c.state) × (c.performed ≡ 0)
IsOpen Q phases.Held c = c.state.position < length Q.code
IsOpen Q (phases.Stopped stop) c = (c.state.position < length Q.code) × (c.performed ≡ 0)

-- the scan cycle is that of the program, each instruction has a flag, and a held scan has something left of its budget
pub record IsKept (Q : Program) (budget : ℕ) (c : KeptCycle) (flags : List Bool) (phase : Phase) : Type 0 where
  pub cycle : IsCycleOf Q c
  pub breaks : length flags ≡ length Q.code
  pub performed : c.cycle.performed < budget
  pub scan : IsOpen Q phase c.cycle

-- what holds of each controller
pub record IsController (o : Owned) : Type 0 where
  pub suits : Suits o.program o.control.cycle.state
  pub blocks : AreLawful o.control.cycle.state.instances
  pub forces : AreMasks o.control.cycle.forces
  pub breaks : length o.control.breaks ≡ length o.program.code
  pub performed : o.control.cycle.performed < o.budget
  pub scan : IsOpen o.program o.control.phase o.control.cycle
