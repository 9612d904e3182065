use Rattle.vr_recovery.proofs.CatchingUp.{replies_so}
use Rattle.vr_recovery.proofs.holding.hold_as_primary.Goals as goal

pub returns : goal.returns
returns c =
    replies_so c.args.core.now c.commit_to-sends.new.self c.args.commit_number c.op_number.result c.min-end.result c.args.changes c.acknowledgement.result c.commit_to-sends.result.items c.push_reserved.new.self.items
    c.op_number.ensures.told c.min-end.ensures c.commit_to-sends.ensures.follows c.acknowledgement.ensures c.push_reserved.ensures.items
