-- A command that has what memory it takes.
use Rattle.std.specs.Prelude.{◌≡◌, false, Ok, Err}
use Rattle.il_model.specs.declared.command.Command.{Command}
use Rattle.il_model.specs.declared.command.Command.TheVariants as commands
use Rattle.il_model.specs.declared.command.Answer.{Answer}
use Rattle.il_model.specs.declared.command.Answer.TheVariants as answers
use Rattle.il_model.specs.declared.command.Refusal.TheVariants as refusals
use Rattle.il_model.specs.Answers.{is_change}
use Rattle.il_model.specs.Program.{Program}
use Rattle.il_records.specs.declared.fault.LoadFault.{LoadFault}
use Rattle.il_loader.specs.Judging.{image_of}
use Rattle.ctl_model.specs.Commands.{no_breaks}
use Rattle.ctl_scan.specs.Kept.{IsCycleOf}
use Rattle.ctl_debugger.specs.declared.ready.Fresh.{Fresh}
use Rattle.ctl_debugger.specs.declared.ready.Kind.{Kind}
use Rattle.ctl_debugger.specs.declared.ready.Kind.TheVariants as kinds
use Rattle.ctl_debugger.specs.Owned.{Owned}
use Rattle.ctl_debugger.specs.Outcome.{if_idle, changed, outcome}

-- what is ready: a command that is no change; a change to bytes that are no image; or a change to a program
pub data Prepared : Type 0 where
  Given : Command → Prepared
  NoImage : Prepared
  To : Program → Prepared

abbrev pub prepared_as : Kind → Prepared
prepared_as (kinds.Given command) = Given command
prepared_as kinds.NoImage = NoImage
prepared_as (kinds.Change fresh) = To fresh.image

-- the scan cycle is that of the program, whatever it holds, and there is no breakpoint
pub record IsFresh (f : Fresh) : Type 0 where
  pub cycle : IsCycleOf f.image f.cycle
  pub breaks : f.breaks ≡ no_breaks f.image

abbrev pub IsWhole : Kind → Type 0
IsWhole (kinds.Given command) = is_change command ≡ false
IsWhole kinds.NoImage = Unit {0}
IsWhole (kinds.Change fresh) = IsFresh fresh

-- it is this command that is ready
abbrev pub IsReady : Command → Prepared → Type 0
IsReady command (Given given) = command ≡ given
IsReady (commands.Change bytes) NoImage = (fault : LoadFault) × (image_of bytes ≡ Err fault)
IsReady (commands.Change bytes) (To R) = image_of bytes ≡ Ok R
IsReady command prepared = ⊥

-- what it does
abbrev pub prepared_outcome : Owned → Prepared → Answer × Owned
prepared_outcome o (Given command) = outcome o command
prepared_outcome o NoImage = if_idle o (answers.Refused refusals.BadImage, o) o.control.phase
prepared_outcome o (To R) = if_idle o (answers.Done, changed o R) o.control.phase
