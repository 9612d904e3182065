use Rattle.std.proofs.Common.{◌≡◌, ◌≤◌, ◌<◌, ◌++◌, ◌∙◌, refl, sym, subst, drop, length, reverse, arith}
use Rattle.vr_model.specs.Checkpoints.{requests_of}
use Rattle.vr_core.specs.Changes.{AreReady}
use Rattle.vr_core.proofs.Readying.{AreReadyFrom, none_from, change_before, other_before}
use Rattle.vr_core.proofs.changes.prepare_before.Goals as goal

pub loop-n-init : goal.loop-n-init
loop-n-init c =
    let entries = c.args.entries.now in
    record {
      within = omega arith;
      ready = subst (AreReadyFrom entries c.args.ready (length entries)) (sym c.ready.view_is) (none_from entries c.args.ready (length entries) refl);
    }

pub loop-n-preserved-in-Continue-1 : goal.loop-n-preserved-in-Continue-1
loop-n-preserved-in-Continue-1 c =
    let above : 0 < c.loop-n.n = omega (arith, c.loop-n-test.true) in
    let within : c.loop-n.n ≤ length c.args.entries.now = c.loop-n.invariant.within in
    record {
      within = omega arith;
      ready = change_before c.args.entries.now c.args.ready c.loop-n.n _ above within _ c.loop-n.changes.items c.put_ready.new.changes.items c.in_ok-put_ready.ensures.0
          (sym c.is_change.ensures ∙ c.if-is_change.true) c.in_ok-put_ready.ensures.1 c.in_ok-put_ready.ensures.2 c.loop-n.invariant.ready;
    }

pub loop-n-preserved : goal.loop-n-preserved
loop-n-preserved c =
    let above : 0 < c.loop-n.n = omega (arith, c.loop-n-test.true) in
    let within : c.loop-n.n ≤ length c.args.entries.now = c.loop-n.invariant.within in
    record {
      within = omega arith;
      ready = other_before c.args.entries.now c.args.ready c.loop-n.n _ above within (reverse c.loop-n.changes.items) (sym c.is_change.ensures ∙ c.if-is_change.false) c.loop-n.invariant.ready;
    }

pub returns : goal.returns
returns c = λ rest h.
    let none : c.loop-n.n ≡ 0 = omega (arith, c.loop-n-test.false) in
    subst (λ k. AreReady (requests_of (drop k c.args.entries.now) ++ rest) (reverse c.loop-n.changes.items)) none (c.loop-n.invariant.ready rest h)
