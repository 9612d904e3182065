use Rattle.std.proofs.Common.{sym, subst, List}
use Rattle.vr_model.specs.declared.message.Message.{Message}
use Rattle.vr_model.specs.Logs.{IsPrefix}
use Rattle.vr_wire.proofs.Pieces.{one_more, shorter, rests, breaks, prefix_so_far}
use Rattle.vr_wire.proofs.feed.frames_of.Goals as goal

pub frames-preserved : goal.frames-preserved
frames-preserved c =
    let shown = rw c.in-Ok-Some.field-0-is at c.in-Ok-Some.ensures in
    rw c.in_ok-push-in-Ok-Some.ensures.items (one_more c.args.bytes.now c.frames.rest.now c.args.out.now.items c.frames.out.items c.in-Ok-Some.message c.in-Ok-Some.behind.now c.frames.invariant shown)

pub frames-smaller : goal.frames-smaller
frames-smaller c =
    let shown = rw c.in-Ok-Some.field-0-is at c.in-Ok-Some.ensures in
    shorter c.frames.rest.now c.in-Ok-Some.message c.in-Ok-Some.behind.now shown

pub returns-in-Ok-None-clause-ok : goal.returns-in-Ok-None-clause-ok
returns-in-Ok-None-clause-ok c =
    let shown = rw c.in-Ok-None.field-0-is at c.in-Ok-None.ensures in
    rests c.args.bytes.now c.frames.rest.now c.args.out.now.items c.frames.out.items c.frames.invariant shown

pub returns-in-Err-Fault-clause-ok : goal.returns-in-Err-Fault-clause-ok
returns-in-Err-Fault-clause-ok c =
    let shown = rw c.in-Err-Fault.field-0-is at c.in-Err-Fault.ensures in
    rw c.in-Err-Fault.fault-is (breaks c.args.bytes.now c.frames.rest.now c.args.out.now.items c.frames.out.items c.frames.invariant c.in-Err-Fault.fault shown)

pub returns-in-Ok-None-clause-grown : goal.returns-in-Ok-None-clause-grown
returns-in-Ok-None-clause-grown c = prefix_so_far c.args.bytes.now c.frames.rest.now c.args.out.now.items c.frames.out.items c.frames.invariant

pub returns-in-Err-Fault-clause-grown : goal.returns-in-Err-Fault-clause-grown
returns-in-Err-Fault-clause-grown c = prefix_so_far c.args.bytes.now c.frames.rest.now c.args.out.now.items c.frames.out.items c.frames.invariant

pub returns-in-Err-Memory-clause-grown : goal.returns-in-Err-Memory-clause-grown
returns-in-Err-Memory-clause-grown c = prefix_so_far c.args.bytes.now c.frames.rest.now c.args.out.now.items c.frames.out.items c.frames.invariant

pub returns-in_err-push-in-Ok-Some-clause-grown : goal.returns-in_err-push-in-Ok-Some-clause-grown
returns-in_err-push-in-Ok-Some-clause-grown c =
    subst (λ (ms : List Message). IsPrefix c.args.out.now.items ms) (sym c.in_err-push-in-Ok-Some.ensures.items)
    (prefix_so_far c.args.bytes.now c.frames.rest.now c.args.out.now.items c.frames.out.items c.frames.invariant)
