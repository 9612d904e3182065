use Rattle.std.proofs.Common.{◌≡◌, [], ◌∷◌, ◌++◌, List, length-append, refl, ap, arith, inr}
use Rattle.std.proofs.lemmas.List.Elements.{All-append, All-cons, All-nil}
use Rattle.vr_serving.specs.Serving.{Turn, Received, GoesOn}
use Rattle.vr_ports.specs.declared.link.Input.TheVariants as input
use Rattle.vr_serving.proofs.Runs.{Did-nothing, Did-more}
use Rattle.vr_serving.proofs.Showing.{shows_still, shows_more}
use Rattle.vr_serving.proofs.serving.serve_from.Goals as goal

pub loop-init : goal.loop-init
loop-init g c = ([], All-nil GoesOn, refl, Did-nothing _ _ _ _, shows_still _ _)

pub returns-then-not-turn-clause-served : goal.returns-then-not-turn-clause-served
returns-then-not-turn-clause-served g c =
    let before : List Turn = c.loop.invariant.0 in
    let closed : c.turn.ensures.turned.turn ≡ Received input.Closed = rw c.if-not-turn.true at c.turn.ensures.turned.kind in
    record {
      turns = before ++ c.turn.ensures.turned.turn ∷ [];
      all = inr (
        before,
        c.loop.invariant.1,
        ap (λ (t : Turn). before ++ t ∷ []) closed,
        omega (arith, length-append before (c.turn.ensures.turned.turn ∷ []), c.loop.invariant.2),
      );
      did = Did-more _ _ _ before (c.turn.ensures.turned.turn ∷ []) _ _ _ c.loop.invariant.3 c.turn.ensures.turned.did;
    }

pub loop-preserved : goal.loop-preserved
loop-preserved g c =
    let before : List Turn = c.loop.invariant.0 in
    let on : GoesOn c.turn.ensures.turned.turn = rw c.if-not-turn.false at c.turn.ensures.turned.kind in (
      before ++ c.turn.ensures.turned.turn ∷ [],
      All-append GoesOn before (c.turn.ensures.turned.turn ∷ []) c.loop.invariant.1 (All-cons GoesOn c.turn.ensures.turned.turn [] on (All-nil GoesOn)),
      omega (arith, length-append before (c.turn.ensures.turned.turn ∷ []), c.loop.invariant.2),
      Did-more _ _ _ before (c.turn.ensures.turned.turn ∷ []) _ _ _ c.loop.invariant.3 c.turn.ensures.turned.did,
      shows_more _ _ _ _ _ _ c.loop.invariant.4 c.turn.ensures.shown,
    )

pub returns-then-not-turn-clause-shown : goal.returns-then-not-turn-clause-shown
returns-then-not-turn-clause-shown g c = shows_more _ _ _ _ _ _ c.loop.invariant.4 c.turn.ensures.shown
