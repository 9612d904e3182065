-- Which commands leave what is forced as it was.
use Rattle.std.specs.Prelude.{◌≡◌, Bool, true, false}
use Rattle.il_model.specs.declared.command.Command.{Command}
use Rattle.il_model.specs.declared.command.Command.TheVariants as commands
use Rattle.ctl_debugger.specs.Outcome.{outcome}
use Rattle.ctl_debugger.specs.Owned.{Owned}

-- all but those that set a force, and a change of the program
abbrev pub leaves_forces : Command → Bool
leaves_forces (commands.Force slot value) = false
leaves_forces (commands.Unforce slot) = false
leaves_forces (commands.Change bytes) = false
leaves_forces command = true

-- whatever the controller is
abbrev pub LeavesForces : Command → Type 0
LeavesForces command = (o : Owned) → (outcome o command).1.control.cycle.forces ≡ o.control.cycle.forces
