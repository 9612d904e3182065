-- How a node ends, and what it does then.
use Rattle.std.specs.Prelude.{◌-◌, Bool, true, false, Option, Some, None, nat_le}
use Rattle.std.specs.Duration.{as_nanos}
use Rattle.std.specs.declared.time.Duration.{Duration}
use Rattle.plc_node_core.specs.declared.ending.Failure.{Failure}
use Rattle.plc_node_core.specs.declared.ending.Failure.TheVariants as failures
use Rattle.plc_node_core.specs.declared.ending.Ending.{Ending}
use Rattle.plc_node_core.specs.declared.ending.Ending.TheVariants as endings
use Rattle.plc_node_core.specs.declared.ending.LastAction.{LastAction}
use Rattle.plc_node_core.specs.declared.ending.LastAction.TheVariants as actions
use Rattle.plc_node_core.specs.declared.ending.End.{End}

-- A node can't go on whose replica's store has failed, nor one whose replica's thread is at its end.
abbrev pub failure_of : Bool → Bool → Option Failure
failure_of true is_over = Some failures.Store
failure_of false true = Some failures.Thread
failure_of false false = None

-- what ended it first stays
abbrev pub first_of : Option End → Ending → Duration → End
first_of (Some end) ending now = end
first_of None ending now = record { ending = ending; since = now; cut = None }

-- its replica's link was cut, now
abbrev pub cut_at : Option End → Duration → Option End
cut_at None now = None
cut_at (Some end) now = Some (record end { cut = Some now })

-- ten seconds have passed since then
abbrev pub is_late : Duration → Duration → Bool
is_late since now = nat_le 10_000_000_000 (as_nanos now - as_nanos since)

-- What it ends with. A node leaves its epoch only once its replica is served no longer; where that doesn't come to be
-- so in time, its store has failed.
abbrev pub outcome_of : Ending → Bool → Bool → Option Ending
outcome_of endings.Stopped is_over is_late = Some endings.Stopped
outcome_of (endings.Failed failure) is_over is_late = Some (endings.Failed failure)
outcome_of endings.Leaves true is_late = Some endings.Leaves
outcome_of endings.Leaves false true = Some (endings.Failed failures.Store)
outcome_of endings.Leaves false false = None

-- a millisecond has passed since it was cut last
abbrev pub is_cut_again : Duration → Duration → Bool
is_cut_again last now = nat_le 1_000_000 (as_nanos now - as_nanos last)

-- its replica's link is cut once; and again and again while the replica is still served, since a start that is under
-- way makes its link anew
abbrev pub is_cut_due : Option Duration → Option Ending → Duration → Bool
is_cut_due None outcome now = true
is_cut_due (Some last) (Some ending) now = false
is_cut_due (Some last) None now = is_cut_again last now

-- First its port closes, then its replica's link is cut, and then it's over.
abbrev pub last_action : Bool → Bool → Option Ending → Option LastAction
last_action true is_cut_due outcome = Some actions.Close
last_action false true outcome = Some actions.Cut
last_action false false (Some ending) = Some (actions.End ending)
last_action false false None = None

abbrev pub outcome_at : End → Bool → Duration → Option Ending
outcome_at end is_over now = outcome_of end.ending is_over (is_late end.since now)

-- what a node does that has ended so, whose port is open or not, and whose replica is still served or not
abbrev pub action_behind : End → Bool → Bool → Duration → Option LastAction
action_behind end is_open is_over now =
    last_action is_open (is_cut_due end.cut (outcome_at end is_over now) now) (outcome_at end is_over now)
