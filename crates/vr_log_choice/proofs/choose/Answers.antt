use Rattle.std.proofs.Common.{sym, subst, ◌+◌, ◌≡◌, ◌∙◌, true, false}
use Rattle.vr_log_choice.proofs.Best.{IsBestBelow, best_one, best_all, some_first, best_more}
use Rattle.vr_log_choice.proofs.Tables.{rules_choice}
use Rattle.vr_log_choice.proofs.choose.Goals as goal
use Rattle.vr_log_choice.proofs.choose.Goals.{then-goes_before, else-goes_before}

pub loop-i-init : goal.loop-i-init
loop-i-init c = let a = some_first c.args.members.now c.requires in best_one c.args.members.now a.0 a.1

pub loop-i-preserved : goal.loop-i-preserved
loop-i-preserved c =
    let k = best_more c.args.members.now c.loop-i.i c.loop-i.best c.index-members-i.result c.index-members-best.result c.goes_before.result
    c.loop-i.invariant c.loop-i-test.true c.index-members-i.is c.index-members-best.is c.goes_before.ensures.0 c.goes_before.ensures.1 in
    elim c.if-goes_before.branch [
      | then-goes_before w ↦ subst (IsBestBelow c.args.members.now (c.loop-i.i + 1)) (sym w.best-is) (k.0 w.if-goes_before.true)
      | else-goes_before w ↦ subst (IsBestBelow c.args.members.now (c.loop-i.i + 1)) (sym w.best-is) (k.1 (λ e. absurd (let d : true ≡ false = sym e ∙ w.if-goes_before.false in cc)))
    ]

pub returns-clause-best : goal.returns-clause-best
returns-clause-best c = best_all c.args.members.now c.loop-i.i c.loop-i.best c.loop-i-test.false c.loop-i.invariant

pub returns-clause-rules : goal.returns-clause-rules
returns-clause-rules c = rules_choice c.args.members.now c.loop-i.best (best_all c.args.members.now c.loop-i.i c.loop-i.best c.loop-i-test.false c.loop-i.invariant)
