use Rattle.std.proofs.Common.{List, subst, ap, ℕ, ◌+◌, ◌∙◌}
use Rattle.vr_model.specs.declared.message.Request as code
use Rattle.vr_model.specs.Checkpoints.{requests_of}
use Rattle.vr_core.specs.Changes.{IsReadyPast}
use Rattle.vr_recovery.proofs.CatchingUp.{catches_up_replying}
use Rattle.vr_recovery.proofs.entries.catch_up_as_primary.Goals as goal

pub returns-clause-ok : goal.returns-clause-ok
returns-clause-ok c =
    let ready = subst (λ (es : List code.Request). IsReadyPast c.args.core.now c.args.op_number (requests_of es) c.min-executed.result c.in_ok-changes.changes) c.as_slice.ensures.value c.in_ok-changes.ensures in
    catches_up_replying c.args.core.now c.replace_log_past.new.self c.adopt.new.self c.hold_as_primary.new.core c.args.view c.args.commit_number c.requires.behind c.adopt.ensures.adopted c.hold_as_primary.result.items
    c.args.op_number c.in-Some.end c.min-executed.result c.args.entries.items c.in_ok-changes.changes c.requires.within c.requires.own (c.in-Some.ensures.1 ∙ ap (λ (n : ℕ). c.args.op_number + n) (c.len.ensures ∙ c.args.entries.ok.0)) c.min-executed.ensures c.in_ok-replace_log_past.ensures.ok ready c.hold_as_primary.ensures
