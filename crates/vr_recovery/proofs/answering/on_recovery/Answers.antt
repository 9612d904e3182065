use Rattle.std.proofs.Common.{subst}
use Rattle.vr_model.specs.Messages.{Recovery}
use Rattle.vr_core.proofs.Senders.{other_for, does_of_other, drops}
use Rattle.vr_recovery.proofs.answering.on_recovery.Goals as goal

pub returns-then-is_other : goal.returns-then-is_other
returns-then-is_other c =
    let core = c.args.core.now in
    let s = c.args.sender in
    does_of_other core s (Recovery c.args.nonce c.args.stored_view) c.recovery_of_other.new.core c.recovery_of_other.result (subst (other_for core s) c.if-is_other.true c.is_other.ensures.told) c.recovery_of_other.ensures

pub returns-else-is_other : goal.returns-else-is_other
returns-else-is_other c =
    let core = c.args.core.now in
    let s = c.args.sender in
    drops core s (Recovery c.args.nonce c.args.stored_view) (subst (other_for core s) c.if-is_other.false c.is_other.ensures.told) c.new.result c.new.ensures.items
