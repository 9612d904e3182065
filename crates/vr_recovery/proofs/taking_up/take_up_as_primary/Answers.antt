use Rattle.std.proofs.Common.{◌≡◌, ◌≤◌, ◌∙◌, min, ap, arith}
use Rattle.vr_model.specs.Checkpoints.{base_of, end_of}
use Rattle.vr_core.proofs.ReadyFor.{readied_some, readied_sound}
use Rattle.vr_core.proofs.Unfit.{never_unfit, drops_err}
use Rattle.vr_recovery.proofs.CatchingUp.{adopts_so_replying}
use Rattle.vr_recovery.proofs.taking_up.take_up_as_primary.Goals as goal

pub returns-clause-ok : goal.returns-clause-ok
returns-clause-ok c = λ l its.
    let early : base_of c.args.log.checkpoint ≤ c.args.core.now.commit_number = omega arith in
    let is : c.min-executed.result ≡ min c.args.commit_number (end_of c.args.log) = c.min-executed.ensures ∙ ap (min c.args.commit_number) c.op_number.ensures.value in
    adopts_so_replying c.args.core.now c.replace_log.new.self c.adopt.new.self c.hold_as_primary.new.core c.args.view c.args.commit_number c.requires.behind c.adopt.ensures.adopted c.hold_as_primary.result.items
    c.args.log l its (c.replace_log.ensures.replaces c.args.commit_number) c.min-executed.result c.in-Some.ready.changes c.requires.own early is (readied_some c.args.core.now c.args.log c.min-executed.result c.in_ok-ready.field-0 c.in-Some.ready c.in-Some.is c.in_ok-ready.ensures.readied).changes c.hold_as_primary.ensures

pub returns-clause-dropped : goal.returns-clause-dropped
returns-clause-dropped c = λ unfit. absurd (never_unfit c.args.core.now c.args.commit_number c.args.log c.requires.reached (readied_sound c.args.core.now c.args.log c.in_ok-ready.field-0 c.in-Some.ready c.in-Some.is c.in_ok-ready.ensures.spoilt) unfit)

pub returns-in_err-ready-clause-dropped : goal.returns-in_err-ready-clause-dropped
returns-in_err-ready-clause-dropped c = λ unfit. drops_err c.args.core.now c.from_residual.result c.from_residual.ensures.0

pub returns-in_err-room-clause-dropped : goal.returns-in_err-room-clause-dropped
returns-in_err-room-clause-dropped c = λ unfit. drops_err c.args.core.now c.from_residual-in_err-room.result c.from_residual-in_err-room.ensures.0
