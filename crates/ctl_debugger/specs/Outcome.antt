-- The command table of a controller whose program can be changed: the answer, and what is owned then. A change has the
-- bytes of an image, and how those are read is left open; the controller reads them as the loader does.
use Rattle.std.specs.Prelude.{ℕ, List, [], ◌∷◌, Result, Ok, Err}
use Rattle.il_model.specs.declared.command.Command.{Command}
use Rattle.il_model.specs.declared.command.Command.TheVariants as commands
use Rattle.il_model.specs.declared.command.Answer.{Answer}
use Rattle.il_model.specs.declared.command.Answer.TheVariants as answers
use Rattle.il_model.specs.declared.command.Refusal.TheVariants as refusals
use Rattle.il_model.specs.Program.{Program}
use Rattle.ctl_model.specs.declared.phase.Phase.{Phase}
use Rattle.ctl_model.specs.declared.phase.Phase.TheVariants as phases
use Rattle.ctl_model.specs.Changes.{carried_control}
use Rattle.ctl_model.specs.Commands.{command_outcome}
use Rattle.il_records.specs.declared.fault.LoadFault.{LoadFault}
use Rattle.il_loader.specs.Images.{Reading}
use Rattle.il_loader.specs.Judging.{image_of}
use Rattle.ctl_debugger.specs.Owned.{Owned, cold_owned, with_control}

-- it goes on with another program
abbrev pub changed : Owned → Program → Owned
changed o R = record o { program = R; control = carried_control o.program o.control R }

-- with the program that bytes were read as, or they are no image
abbrev pub on_image : Owned → Result Program LoadFault → Answer × Owned
on_image o (Ok R) = (answers.Done, changed o R)
on_image o (Err fault) = (answers.Refused refusals.BadImage, o)

-- between two scans alone
abbrev pub if_idle : Owned → Answer × Owned → Phase → Answer × Owned
if_idle o x phases.Idle = x
if_idle o x phase = (answers.Refused refusals.NotIdle, o)

abbrev pub outcome_with : Reading → Owned → Command → Answer × Owned
outcome_with reading o (commands.Change bytes) = if_idle o (on_image o (reading bytes)) o.control.phase
outcome_with reading o command = with_control o (command_outcome o.program o.budget o.control command)

-- what commands are answered, one after another
abbrev pub answers_with : Reading → Owned → List Command → List Answer
answers_with reading o [] = []
answers_with reading o (c ∷ more) = (outcome_with reading o c).0
    ∷ answers_with reading (outcome_with reading o c).1 more

-- ---- images read as the loader reads them

abbrev pub outcome : Owned → Command → Answer × Owned
outcome o command = outcome_with image_of o command

-- what commands leave, one after another
abbrev pub owned_from : Owned → List Command → Owned
owned_from o [] = o
owned_from o (c ∷ more) = owned_from (outcome o c).1 more

-- and what they are answered
abbrev pub answers_from : Owned → List Command → List Answer
answers_from o cs = answers_with image_of o cs

-- those of a controller of a program that never ran
abbrev pub answers_of : Program → ℕ → List Command → List Answer
answers_of Q budget cs = answers_from (cold_owned Q budget) cs
