-- Where no row of the table of actions is due, no action is.
use Rattle.std.proofs.Common.{◌≡◌, ℕ, Some, None, sym, ◌∙◌}
use Rattle.std.specs.declared.time.Duration.{Duration}
use Rattle.plc_node_core.specs.declared.role.Role.{Role}
use Rattle.plc_node_core.specs.declared.role.Action.{Action}
use Rattle.plc_node_core.specs.declared.role.Action.TheVariants as actions
use Rattle.plc_node_core.specs.declared.ending.End.{End}
use Rattle.plc_node_core.specs.declared.node.Node.{Node}
use Rattle.plc_node_core.specs.declared.node.NodeAction.{NodeAction}
use Rattle.plc_node_core.specs.declared.node.NodeAction.TheVariants as nodes
use Rattle.plc_node_core.specs.Actions.{IsDue}
use Rattle.plc_node_core.specs.Ending.{action_behind}
use Rattle.plc_node_core.specs.Going.{IsDueBy}

pub none_due : (now : Duration) (role : Role) → (IsDue now role actions.Fill → ⊥) → (IsDue now role actions.Submit → ⊥) → (IsDue now role actions.Again → ⊥) → (IsDue now role actions.Close → ⊥) → ((view : ℕ) → IsDue now role (actions.Open view) → ⊥) → (action : Action) → IsDue now role action → ⊥
none_due now role fill submit again close open_in actions.Fill due = fill due
none_due now role fill submit again close open_in actions.Submit due = submit due
none_due now role fill submit again close open_in actions.Again due = again due
none_due now role fill submit again close open_in actions.Close due = close due
none_due now role fill submit again close open_in (actions.Open view) due = open_in view due

-- of a node that goes on
pub none_going : (now : Duration) (node : Node) → ((action : Action) → IsDue now node.role action → ⊥) → (action : NodeAction) → IsDueBy None now node action → ⊥
none_going now node none (nodes.Does action) due = none action due
none_going now node none (nodes.Ends last) due = due

-- of one that has ended
pub none_behind : (end : End) (now : Duration) (node : Node) → action_behind end node.role.port.is_open node.is_over now ≡ None → (action : NodeAction) → IsDueBy (Some end) now node action → ⊥
none_behind end now node none (nodes.Does action) due = due
none_behind end now node none (nodes.Ends last) due = let both : None ≡ Some last = sym none ∙ due in cc
