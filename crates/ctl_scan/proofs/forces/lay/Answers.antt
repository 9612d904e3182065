use Rattle.std.proofs.Common.{◌≡◌, ◌+◌, take, suc, sym, ap, ◌∙◌, arith, set}
use Rattle.ctl_model.specs.Forces.{overlay}
use Rattle.ctl_scan.proofs.Laid.{laid_none, laid_some}
use Rattle.ctl_scan.proofs.forces.lay.Goals as goal
use Rattle.ctl_scan.proofs.forces.lay.Goals.{in-Some, in_default}

pub loop-i-preserved : goal.loop-i-preserved
loop-i-preserved g c =
    let next : c.loop-i.i + 1 ≡ suc c.loop-i.i = omega arith in
    elim c.match-mask-i.branch [
      | in-Some w ↦ w.cells-is ∙ ap (λ xs. set xs c.loop-i.i w.in-Some.x) c.loop-i.invariant ∙ sym (laid_some c.args.mask.now c.loop-i.i c.args.cells.now w.in-Some.x _ c.loop-i-test.true w.in-Some.is) ∙ ap (λ n. overlay (take n c.args.mask.now) c.args.cells.now) (sym next)
      | in_default w ↦ w.cells-is ∙ c.loop-i.invariant ∙ sym (laid_none c.args.mask.now c.loop-i.i c.args.cells.now _ c.loop-i-test.true w.in_default.is) ∙ ap (λ n. overlay (take n c.args.mask.now) c.args.cells.now) (sym next)
    ]
