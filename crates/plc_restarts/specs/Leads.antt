-- What comes into the one log behind a last scan, whoever leads.
use Rattle.std.specs.Prelude.{◌≤◌, List, [], ◌∷◌, ◌++◌, length, Option, option_to_list}
use Rattle.il_model.specs.declared.command.Command.{Command}
use Rattle.plc_restarts.specs.declared.outage.Clocks.{Clocks}
use Rattle.plc_restarts.specs.declared.outage.LastScan.{LastScan}
use Rattle.plc_restarts.specs.declared.restart.Restarts.{Restarts}
use Rattle.plc_restarts.specs.Outages.{IsFirst}

-- A machine begins to lead, and puts the command that is the first one by its own clocks, if one is; or another command
-- comes, as of an operator.
pub data Coming : Type 0 where
  Leads : (last : LastScan) (now : Clocks) (first : Option Command) → Coming
  Comes : (command : Command) → Coming

-- each that leads sees what came by then
abbrev pub AreComings : Restarts → List Command → List Coming → Type 0
AreComings r behind [] = Unit {0}
AreComings r behind (Leads last now first ∷ more) =
    IsFirst r last now behind first × AreComings r (behind ++ option_to_list first) more
AreComings r behind (Comes c ∷ more) = AreComings r (behind ++ c ∷ []) more

-- the restarts that machines put, in order
abbrev pub restarts_in : List Coming → List Command
restarts_in [] = []
restarts_in (Leads last now first ∷ more) = option_to_list first ++ restarts_in more
restarts_in (Comes c ∷ more) = restarts_in more

-- whoever leads, how often and by whatever clocks, between two scans there is one at most
abbrev pub RestartsOnce : Type 0
RestartsOnce = (r : Restarts) (comings : List Coming) → AreComings r [] comings → length (restarts_in comings) ≤ 1
