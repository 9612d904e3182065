-- What a console knows of the controller by the answers of its commands: the program in force, and a mirror.
use Rattle.std.specs.Prelude.{List, [], ◌∷◌, Option, Some, None, Result, Ok, Err, unwrap_or, ◌≡◌}
use Rattle.il_model.specs.declared.command.Answer.{Answer}
use Rattle.il_model.specs.declared.command.Answer.TheVariants.{Done}
use Rattle.il_model.specs.declared.command.Command.{Command}
use Rattle.il_model.specs.declared.command.Command.TheVariants.{Change}
use Rattle.il_model.specs.Program.{Program}
use Rattle.il_records.specs.declared.fault.LoadFault.{LoadFault}
use Rattle.il_loader.specs.Judging.{image_of}
use Rattle.ctl_model.specs.declared.phase.Phase.TheVariants.{Idle}
use Rattle.ctl_debugger.specs.Owned.{Owned}
use Rattle.ctl_debugger.specs.Outcome.{outcome}

-- ---- the program in force while commands are answered: that whose variables their names mean

-- the program that bytes are the image of, if they are one
abbrev pub loaded : Result Program LoadFault → Option Program
loaded (Ok R) = Some R
loaded (Err fault) = None

-- the program that a change brings
abbrev pub brought_by : Command → Option Program
brought_by (Change image) = loaded (image_of image)
brought_by command = None

-- a change that is done goes on with the program that it brings, and all else with the same
abbrev pub goes_on_with : Program → Option Program → Answer → Program
goes_on_with Q brought Done = unwrap_or brought Q
goes_on_with Q brought answer = Q

-- the program in force after these commands, one after another, had these answers
abbrev pub in_force_after : Program → List (Command × Answer) → Program
in_force_after Q [] = Q
in_force_after Q ((command, answer) ∷ more) = in_force_after (goes_on_with Q (brought_by command) answer) more

-- ---- the mirror

-- what is known after a command had this answer: what was done there is done here, too
abbrev pub mirrored : Owned → Command → Answer → Owned
mirrored m command Done = (outcome m command).1
mirrored m command answer = m

-- a controller's mirror has its program, its forces and its breakpoints, and runs no scan
pub record IsMirror (o m : Owned) : Type 0 where
  pub program : m.program ≡ o.program
  pub forces : m.control.cycle.forces ≡ o.control.cycle.forces
  pub breaks : m.control.breaks ≡ o.control.breaks
  pub idle : m.control.phase ≡ Idle

-- It stays one, whatever command the controller takes: also a scan, of which the mirror isn't told.
abbrev pub StaysMirror : Type 0
StaysMirror = (o m : Owned) (command : Command) → IsMirror o m
    → IsMirror (outcome o command).1 (mirrored m command (outcome o command).0)
