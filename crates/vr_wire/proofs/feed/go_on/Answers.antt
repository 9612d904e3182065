use Rattle.std.proofs.Common.{ℕ, ◌++◌, ◌∷◌, [], List, refl, subst}
use Rattle.io_model.specs.Streams.{Rest, Took, ending_of}
use Rattle.vr_model.specs.declared.message.Message.{Message}
use Rattle.vr_wire.specs.Frames.{IsPartial, IsBroken}
use Rattle.vr_wire.specs.Streams.{IsWhole, frames}
use Rattle.vr_wire.proofs.Pieces.{goes_on_waiting, goes_on_broken, goes_on_whole, prefix_same, prefix_past, on_err}
use Rattle.vr_wire.proofs.feed.go_on.Goals as goal

pub returns-in_err-rest-clause-err : goal.returns-in_err-rest-clause-err
returns-in_err-rest-clause-err c = on_err c.from_residual.result c.fill_frame.ensures.grown (prefix_same c.args.out.now.items c.args.out.now.items refl)

pub returns-in_err-push-in-Ok-Some-clause-err : goal.returns-in_err-push-in-Ok-Some-clause-err
returns-in_err-push-in-Ok-Some-clause-err c =
    on_err c.from_residual-in_err-push-in-Ok-Some.result c.fill_frame.ensures.grown (prefix_same c.args.out.now.items c.push.new.self.items c.in_err-push-in-Ok-Some.ensures.items)

pub returns-in_err-tail-in-Ok-Some-clause-err : goal.returns-in_err-tail-in-Ok-Some-clause-err
returns-in_err-tail-in-Ok-Some-clause-err c =
    on_err c.from_residual-in_err-tail-in-Ok-Some.result c.fill_frame.ensures.grown (prefix_past c.args.out.now.items c.in-Ok-Some.message c.push.new.self.items c.frames_of.new.out.items c.in_ok-push-in-Ok-Some.ensures.items c.frames_of.ensures.grown)

pub returns-in_err-held-in-Ok-Some-clause-err : goal.returns-in_err-held-in-Ok-Some-clause-err
returns-in_err-held-in-Ok-Some-clause-err c =
    on_err c.from_residual-in_err-held-in-Ok-Some.result c.fill_frame.ensures.grown (prefix_past c.args.out.now.items c.in-Ok-Some.message c.push.new.self.items c.frames_of.new.out.items c.in_ok-push-in-Ok-Some.ensures.items c.frames_of.ensures.grown)

pub returns-in_ok-held-in-Ok-Some-clause-ok : goal.returns-in_ok-held-in-Ok-Some-clause-ok
returns-in_ok-held-in-Ok-Some-clause-ok c =
    let shown = rw c.in-Ok-Some.field-0-is at c.in-Ok-Some.ensures in
    let m = c.in-Ok-Some.message in
    let before = c.args.out.now.items in
    let after = c.frames_of.new.out.items in
    let ending = ending_of c.in_ok-tail-in-Ok-Some.tail.now c.in_ok-tail-in-Ok-Some.fault in
    let more : Took frames (Rest []) c.in_ok-rest.rest.now ending (before ++ m ∷ []) after = subst (λ (ms : List Message). Took frames (Rest []) c.in_ok-rest.rest.now ending ms after) c.in_ok-push-in-Ok-Some.ensures.items c.in_ok-tail-in-Ok-Some.ensures.ok in
    rw c.in_ok-held-in-Ok-Some.ensures.items
    (goes_on_whole c.args.held.now.items c.args.piece.now c.fill_frame.new.held.items c.in_ok-rest.rest.now c.in_ok-rest.ensures.ok m c.in-Ok-Some.field-0-0-1.now ending before after (subst (λ (bytes : List ℕ). IsWhole bytes m c.in-Ok-Some.field-0-0-1.now) c.as_slice.ensures.value shown) more)

pub returns-in-Ok-None-clause-ok : goal.returns-in-Ok-None-clause-ok
returns-in-Ok-None-clause-ok c =
    let shown = rw c.in-Ok-None.field-0-is at c.in-Ok-None.ensures in
    goes_on_waiting c.args.held.now.items c.args.piece.now c.fill_frame.new.held.items c.in_ok-rest.rest.now c.in_ok-rest.ensures.ok c.args.out.now.items (subst IsPartial c.as_slice.ensures.value shown)

pub returns-in-Err-Fault-clause-ok : goal.returns-in-Err-Fault-clause-ok
returns-in-Err-Fault-clause-ok c =
    let shown = rw c.in-Err-Fault.field-0-is at c.in-Err-Fault.ensures in
    rw c.in-Err-Fault.fault-is
    (goes_on_broken c.args.held.now.items c.args.piece.now c.fill_frame.new.held.items c.in_ok-rest.rest.now c.in_ok-rest.ensures.ok c.args.out.now.items c.in-Err-Fault.fault (subst (IsBroken c.in-Err-Fault.fault) c.as_slice.ensures.value shown))

pub returns-in-Err-Memory-clause-err : goal.returns-in-Err-Memory-clause-err
returns-in-Err-Memory-clause-err c = (c.fill_frame.ensures.grown, prefix_same c.args.out.now.items c.args.out.now.items refl)
