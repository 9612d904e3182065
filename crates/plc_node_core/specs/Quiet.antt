-- What a node is whose stage is still to get the inputs that it inherits.
use Rattle.std.specs.Prelude.{Bool, true, not, ◌&&◌, Option, Some, None, is_some}
use Rattle.il_model.specs.declared.cells.InImage.{InImage}
use Rattle.plc_machine.specs.declared.driver.MachineDriver.{MachineDriver}

-- no scan waits for its reply, and nothing is shown
abbrev pub is_quiet : MachineDriver → Bool
is_quiet driver = not (is_some driver.driver.state.waits) && not (is_some driver.shown)

-- its stage may be about to get these inputs, if any, as long as it's quiet
abbrev pub may_inherit : Option InImage → MachineDriver → Bool
may_inherit None driver = true
may_inherit (Some inputs) driver = is_quiet driver
