-- What is ready does what its command does.
use Rattle.std.proofs.Common.{◌≡◌, ap}
use Rattle.il_model.specs.declared.command.Command.{Command}
use Rattle.il_model.specs.declared.command.Command.TheVariants as commands
use Rattle.il_model.specs.Program.{Program}
use Rattle.ctl_debugger.specs.Owned.{Owned}
use Rattle.ctl_debugger.specs.Outcome.{outcome, if_idle, on_image}
use Rattle.ctl_debugger.specs.Prepared.{Prepared, Given, NoImage, To, IsReady, prepared_outcome}

no_image : (o : Owned) (c : Command) → IsReady c NoImage → outcome o c ≡ prepared_outcome o NoImage
no_image o (commands.Change bytes) is = ap (λ r. if_idle o (on_image o r) o.control.phase) is.1
no_image o _ is = absurd is

to_program : (o : Owned) (c : Command) (R : Program) → IsReady c (To R) → outcome o c ≡ prepared_outcome o (To R)
to_program o (commands.Change bytes) R is = ap (λ r. if_idle o (on_image o r) o.control.phase) is
to_program o _ R is = absurd is

pub outcome_ready : (o : Owned) (c : Command) (p : Prepared) → IsReady c p → outcome o c ≡ prepared_outcome o p
outcome_ready o c (Given d) is = ap (outcome o) is
outcome_ready o c NoImage is = no_image o c is
outcome_ready o c (To R) is = to_program o c R is
