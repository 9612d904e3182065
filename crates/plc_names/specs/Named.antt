-- What named commands mean to a program: names give way to their slots.
use Rattle.std.specs.Prelude.{◌≡◌, ℕ, List, [], ◌∷◌, None, unwrap_or}
use Rattle.std.specs.String.{string_bytes}
use Rattle.il_model.specs.declared.slot.Slot.{Slot}
use Rattle.il_model.specs.declared.command.Answer.{Answer}
use Rattle.il_model.specs.declared.command.Command.{Command}
use Rattle.il_model.specs.declared.command.Command.TheVariants.{Force, Unforce, ReadVar}
use Rattle.il_model.specs.declared.program.Place.{Place}
use Rattle.il_model.specs.Program.{Program}
use Rattle.il_loader.specs.Images.{Reading}
use Rattle.il_loader.specs.Judging.{image_of}
use Rattle.ctl_model.specs.Slots.{slot_place, slot_of}
use Rattle.ctl_model.specs.Commands.{forcible_at}
use Rattle.ctl_debugger.specs.Owned.{Owned}
use Rattle.ctl_debugger.specs.Outcome.{outcome_with}
use Rattle.plc_json.specs.declared.command.NamedCommand.{NamedCommand}
use Rattle.plc_json.specs.declared.command.NamedCommand.TheVariants as named

-- FFFF hex
abbrev pub no_slot : Slot
no_slot = record { 0 = 65535 }

-- nothing can be forced there, and nothing read, whatever the program
pub record IsNoSlot (slot : Slot) : Type 0 where
  pub not_forced : forcible_at slot.0 ≡ None
  pub not_read : (lie : List Place) → slot_place lie slot.0 ≡ None

-- the slot of a name, and that which is none where it is no slot's
abbrev pub slot_meant : Program → List ℕ → Slot
slot_meant Q name = unwrap_or (slot_of Q name) no_slot

abbrev pub meant : Program → NamedCommand → Command
meant Q (named.Plain command) = command
meant Q (named.Force name value) = Force (slot_meant Q (string_bytes name)) value
meant Q (named.Unforce name) = Unforce (slot_meant Q (string_bytes name))
meant Q (named.Read name) = ReadVar (slot_meant Q (string_bytes name))

-- what a controller answers to named commands, one after another, where images are read so; each name is one of the
-- program in force
abbrev pub named_answers : Reading → Owned → List NamedCommand → List Answer
named_answers reading c [] = []
named_answers reading c (asked ∷ more) = (outcome_with reading c (meant c.program asked)).0
    ∷ named_answers reading (outcome_with reading c (meant c.program asked)).1 more

-- where they are read as the loader reads them
abbrev pub answers_by : Owned → List NamedCommand → List Answer
answers_by c commands = named_answers image_of c commands
