-- What becomes of a node by a look at its replica, and of its stage where that inherits inputs.
use Rattle.std.specs.Prelude.{◌≡◌, ℕ, ◌==◌, Bool, true, false, not, Option, Some, None, if◌then◌else◌, option_map}
use Rattle.std.specs.declared.time.Duration.{Duration}
use Rattle.il_model.specs.declared.cells.InImage.{InImage}
use Rattle.io_image.specs.Book.{Book, Changed, cells_of}
use Rattle.plc_machine.specs.declared.leading.SeenScan.{SeenScan}
use Rattle.plc_machine.specs.Driving as machine
use Rattle.plc_node_core.specs.declared.role.PortState.{PortState}
use Rattle.plc_node_core.specs.declared.role.Role.{Role}
use Rattle.plc_node_core.specs.Actions.{led_in}

-- its replica leads this view, if one, and it led another one, or none
abbrev pub begins_to_lead : Option ℕ → Option ℕ → Bool
begins_to_lead None before = false
begins_to_lead (Some view) None = true
begins_to_lead (Some view) (Some led) = not (view == led)

-- what the stage is still to get behind a look: the inputs of the last scan where it begins to lead, else what it was
-- to get before
abbrev pub inherited_by : Bool → Option InImage → Option InImage → Option InImage
inherited_by begins before seen = if begins then seen else before

-- its scans, its stage and its port are as they were
abbrev pub IsSameRole : Role → Role → Type 0
IsSameRole a b = (b.scans ≡ a.scans) × (b.inherited ≡ a.inherited) × (b.port ≡ a.port)

-- its port is so now, and its scans and its stage are as they were
abbrev pub HasPort : PortState → Role → Role → Type 0
HasPort port a b = (b.port ≡ port) × (b.scans ≡ a.scans) × (b.inherited ≡ a.inherited)

-- It follows its replica, and inherits where it begins to lead.
pub record Looks (leads : Option ℕ) (seen : Option SeenScan) (now : Duration) (a b : Role) : Type 0 where
  pub driver : machine.Looks leads (option_map (λ s. s.last) seen) now a.scans.driver b.scans.driver
  pub inherited : b.inherited
      ≡ inherited_by (begins_to_lead leads (led_in a.scans.driver.course)) a.inherited (option_map (λ s. s.inputs) seen)
  pub port : b.port ≡ a.port

-- Where a port is closed the stage has the inputs that were to be inherited, if it has a ghost history, and none are
-- any more; where it's open, or there are none, nothing changes.
abbrev pub Fills : Bool → Option InImage → Option Book → Option Book → Option InImage → Type 0
Fills true inherited told told' after = (told' ≡ told) × (after ≡ inherited)
Fills false None told told' after = (told' ≡ told) × (after ≡ None)
Fills false (Some inputs) told told' after =
    Changed told told' (λ before behind. cells_of behind ≡ inputs.cells) × (after ≡ None)
