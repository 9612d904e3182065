-- What the held link of a replica gives, and when it's held.
use Rattle.std.specs.Prelude.{Bool, ◌&&◌, ◌||◌, if◌then◌else◌}
use Rattle.vr_model.specs.declared.message.Message.{Message}
use Rattle.vr_ports.specs.declared.link.Input.{Input}
use Rattle.vr_ports.specs.declared.link.Input.TheVariants as inputs
use Rattle.plc_host_core.specs.Reaching.{is_answer}
use Rattle.plc_host_core.specs.declared.epoch_keeper.EpochAction.{EpochAction}
use Rattle.plc_host_core.specs.declared.epoch_keeper.EpochAction.TheVariants as actions
use Rattle.plc_member.specs.declared.freezing.LinkOrder.{LinkOrder}
use Rattle.plc_member.specs.declared.freezing.LinkOrder.TheVariants as orders

-- an answer doesn't reach the replica of a link that is held; all else does
abbrev pub let_through : Message → Bool → Input
let_through message is_held = if is_held && is_answer message then inputs.Nothing else inputs.Message message

-- ---- when it's held

-- A frozen machine's link stays held, whatever is to be done about epochs, and also while its replica thaws: that is to
-- come up under another nonce first. It's let go where the machine may take answers.
abbrev pub link_order : EpochAction → Bool → LinkOrder
link_order (actions.Thaws nonce) takes_answers = orders.Thaw
link_order action takes_answers = if takes_answers then orders.LetGo else orders.Stay

-- a machine may freeze by what it's told: by words, or, where it begins anew by itself, since f others recover
abbrev pub may_freeze : Bool → Bool → Bool → Bool
may_freeze has_words is_automatic others_recover = has_words || (is_automatic && others_recover)

-- a link stays held whose replica has come to its next receive since it was held, and recovers still
abbrev pub stays_held : Bool → Bool → Bool
stays_held is_taken_up recovers = is_taken_up && recovers
