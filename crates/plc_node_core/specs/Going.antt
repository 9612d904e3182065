-- A node from its first look to its end.
use Rattle.std.specs.Prelude.{◌≡◌, ◌⊎◌, Option, Some, None}
use Rattle.std.specs.declared.time.Duration.{Duration}
use Rattle.plc_machine.specs.Leading.{led_view}
use Rattle.plc_node_core.specs.declared.role.Action.{Action}
use Rattle.plc_node_core.specs.declared.ending.Failure.{Failure}
use Rattle.plc_node_core.specs.declared.ending.Failure.TheVariants as failures
use Rattle.plc_node_core.specs.declared.ending.Ending.TheVariants as endings
use Rattle.plc_node_core.specs.declared.ending.End.{End}
use Rattle.plc_node_core.specs.declared.node.Node.{Node}
use Rattle.plc_node_core.specs.declared.node.NodeAction.{NodeAction}
use Rattle.plc_node_core.specs.declared.node.NodeAction.TheVariants as actions
use Rattle.plc_node_core.specs.declared.node.ShownReplica.{ShownReplica}
use Rattle.plc_node_core.specs.Actions.{IsDue}
use Rattle.plc_node_core.specs.Ending.{action_behind, failure_of}
use Rattle.plc_node_core.specs.Turns.{IsSameRole, Looks}

-- until it ends a node does what is due of its role, and then what ends it, and nothing else
abbrev pub IsDueBy : Option End → Duration → Node → NodeAction → Type 0
IsDueBy None now node (actions.Does action) = IsDue now node.role action
IsDueBy None now node (actions.Ends last) = ⊥
IsDueBy (Some end) now node (actions.Does action) = ⊥
IsDueBy (Some end) now node (actions.Ends last) = action_behind end node.role.port.is_open node.is_over now ≡ Some last

abbrev pub IsNodeDue : Duration → Node → NodeAction → Type 0
IsNodeDue now node action = IsDueBy node.end now node action

-- it ends by this failure, now, and all else is as it was
abbrev pub Fails : Failure → Duration → Node → Node → Type 0
Fails failure now a b = IsSameRole a.role b.role
    × (b.end ≡ Some (record { ending = endings.Failed failure; since = now; cut = None }))

-- its role follows what its replica shows; or its client's numbers are used up
abbrev pub LooksUnless : Option Failure → ShownReplica → Duration → Node → Node → Type 0
LooksUnless (Some failure) shown now a b = Fails failure now a b
LooksUnless None shown now a b =
    (Looks (led_view shown.standing shown.has_failed) shown.seen now a.role b.role × (b.end ≡ None))
    ⊎ Fails failures.NumbersUsedUp now a b

abbrev pub LooksBy : Option End → ShownReplica → Duration → Node → Node → Type 0
LooksBy (Some end) shown now a b = IsSameRole a.role b.role × (b.end ≡ a.end)
LooksBy None shown now a b = LooksUnless (failure_of shown.has_failed shown.is_over) shown now a b

-- A node that has ended follows nothing any more. One that goes on ends where its replica can't go on, and follows it
-- else. Either way it knows whether that is still served.
abbrev pub NodeLooks : ShownReplica → Duration → Node → Node → Type 0
NodeLooks shown now a b = LooksBy a.end shown now a b × (b.is_over ≡ shown.is_over)
