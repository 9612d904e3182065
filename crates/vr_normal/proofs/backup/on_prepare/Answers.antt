use Rattle.std.proofs.Common.{subst}
use Rattle.vr_model.specs.Messages.{Prepare}
use Rattle.vr_model.specs.StandsFor.{request_of}
use Rattle.vr_core.proofs.Senders.{other_for, does_of_other, drops}
use Rattle.vr_normal.proofs.backup.on_prepare.Goals as goal

pub returns-then-is_other : goal.returns-then-is_other
returns-then-is_other c =
    let core = c.args.core.now in
    let s = c.args.sender in
    does_of_other core s (Prepare c.args.prepare.view (request_of c.args.prepare.request) c.args.prepare.op_number c.args.prepare.commit_number) c.prepare_of_other.new.core c.prepare_of_other.result (subst (other_for core s) c.if-is_other.true c.is_other.ensures.told) c.prepare_of_other.ensures

pub returns-else-is_other : goal.returns-else-is_other
returns-else-is_other c =
    let core = c.args.core.now in
    let s = c.args.sender in
    drops core s (Prepare c.args.prepare.view (request_of c.args.prepare.request) c.args.prepare.op_number c.args.prepare.commit_number) (subst (other_for core s) c.if-is_other.false c.is_other.ensures.told) c.new.result c.new.ensures.items
