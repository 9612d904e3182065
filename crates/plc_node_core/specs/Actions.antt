-- What a node is to do next about its port, its stage and its scans.
use Rattle.std.specs.Prelude.{◌≡◌, ℕ, true, false, Option, Some, None, is_some}
use Rattle.std.specs.declared.time.Duration.{Duration}
use Rattle.plc_machine.specs.declared.leading.Course.{Course}
use Rattle.plc_machine.specs.declared.leading.Course.TheVariants.{StandingBy, Leading}
use Rattle.plc_machine.specs.Driving.{Shows}
use Rattle.plc_node_core.specs.declared.role.Role.{Role}
use Rattle.plc_node_core.specs.declared.role.Action.{Action}
use Rattle.plc_node_core.specs.declared.role.Action.TheVariants as actions
use Rattle.plc_node_core.specs.Scanning.{is_asked_again, is_scan_due, waits_in}
use Rattle.plc_node_core.specs.Trying.{is_due}

-- the view that it leads, if it leads
abbrev pub led_in : Course → Option ℕ
led_in StandingBy = None
led_in (Leading lead) = Some lead.view

-- What is due. Behind a closed port the stage gets what it inherits; where it's to get nothing, a scan is submitted
-- that is due and for which none waits. A request that waits goes again where it's to. A port that is open and shows
-- nothing closes; one that is closed opens once there is something to show, where its stage is to get nothing and it
-- wasn't refused a moment ago.
abbrev pub IsDue : Duration → Role → Action → Type 0
IsDue now role actions.Fill = (is_some role.inherited ≡ true) × (role.port.is_open ≡ false)
IsDue now role actions.Submit = (is_some role.inherited ≡ false) × (waits_in role.scans.driver ≡ false)
    × (is_scan_due role.scans.driver.course now ≡ true)
IsDue now role actions.Again = is_asked_again role.scans now ≡ true
IsDue now role actions.Close = (role.port.is_open ≡ true) × (Shows now role.scans.driver → ⊥)
IsDue now role (actions.Open view) = (role.port.is_open ≡ false) × (is_some role.inherited ≡ false)
    × Shows now role.scans.driver × (led_in role.scans.driver.course ≡ Some view)
    × (is_due role.port.tries view now ≡ true)
