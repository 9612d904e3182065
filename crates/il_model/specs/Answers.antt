-- What answers tell: the numbers of stops and refusals, and the image that is released; which commands are changes.
use Rattle.std.specs.Prelude.{ℕ, Bool, true, false, Option, Some, None}
use Rattle.il_model.specs.declared.command.Command.{Command}
use Rattle.il_model.specs.declared.command.Refusal.{Refusal}
use Rattle.il_model.specs.declared.command.Answer.{Answer}
use Rattle.il_model.specs.declared.cells.OutImage.{OutImage}
use Rattle.il_model.specs.declared.command.Command.TheVariants as command
use Rattle.il_model.specs.declared.command.Refusal.TheVariants as refusal
use Rattle.il_model.specs.declared.command.Answer.TheVariants as answer

abbrev pub refusal_number : Refusal → ℕ
refusal_number refusal.NotHeld = 1
refusal_number refusal.BadPosition = 2
refusal_number refusal.BadSlot = 3
refusal_number refusal.BadType = 4
refusal_number refusal.NoResult = 5
refusal_number refusal.BadImage = 6
refusal_number refusal.NotIdle = 7

abbrev pub released_image : Answer → Option OutImage
released_image (answer.Outputs count image) = Some image
released_image (answer.Stopped stop position image) = Some image
released_image _ = None

-- it changes the program
abbrev pub is_change : Command → Bool
is_change (command.Change bytes) = true
is_change _ = false
