use Rattle.std.proofs.Common.{List, subst}
use Rattle.vr_model.specs.declared.message.Request as code
use Rattle.vr_model.specs.Checkpoints.{requests_of}
use Rattle.vr_core.specs.Changes.{IsReadyPast}
use Rattle.vr_recovery.proofs.CatchingUp.{goes_on_so}
use Rattle.vr_recovery.proofs.entries.go_on.Goals as goal

pub returns-clause-ok : goal.returns-clause-ok
returns-clause-ok c =
    let ready = subst (λ (es : List code.Request). IsReadyPast c.args.core.now c.op_number-held.result (requests_of es) c.args.commit_number c.in_ok-changes.changes) c.as_slice.ensures.value c.in_ok-changes.ensures in
    goes_on_so c.args.core.now c.replace_log_past.new.self c.hold.new.core c.args.entries.items c.forget_first.new.entries.items c.op_number-held.result c.args.op_number c.args.commit_number c.in_ok-changes.changes c.hold.result.items
    c.op_number-held.ensures.value c.forget_first.ensures c.in_ok-replace_log_past.ensures.ok ready c.hold.ensures
