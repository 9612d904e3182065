use Rattle.std.proofs.Common.{◌≡◌, ◌∙◌, sym, eqb, ◌&&◌, subst, true, false}
use Rattle.vr_model.specs.Replicas.{takes_part, is_view_change}
use Rattle.vr_core.specs.Follows.{Tells}
use Rattle.vr_viewchange.proofs.Gathering.{keep_later, keep_here, not_its_view, no_change}
use Rattle.vr_viewchange.proofs.gather.do_view_change_of_other.Goals as goal
use Rattle.vr_viewchange.proofs.gather.do_view_change_of_other.Goals.{else-takes_part-via-then-takes_part+else-core-view, else-takes_part-via-else-takes_part}

pub returns-then-primary-core-clause-rule : goal.returns-then-primary-core-clause-rule
returns-then-primary-core-clause-rule c = λ a its. let d = c.args.do_view_change in not_its_view c.args.core.now c.args.view d.replica a c.new.result c.new.ensures.items (λ e. c.if-primary-core.true (c.primary.ensures.primary ∙ e))

pub returns-else-changes_to-clause-rule : goal.returns-else-changes_to-clause-rule
returns-else-changes_to-clause-rule c = λ a its.
    let core = c.args.core.now in
    let d = c.args.do_view_change in
    no_change core c.args.view d.replica a c.new-else-changes_to.result c.new-else-changes_to.ensures.items
    (subst (λ b. Tells core (λ w r. is_view_change r.status && eqb r.view c.args.view) b) c.if-changes_to.false c.changes_to.ensures.told)
    (λ w r st part. elim c.else-takes_part.branch [
      | else-takes_part-via-then-takes_part+else-core-view p ↦ p.if-core-view.false
      | else-takes_part-via-else-takes_part p ↦ absurd (let e : true ≡ false = sym part ∙ sym (c.takes_part.ensures.tells w r st) ∙ p.if-takes_part.false in cc)
    ])

pub returns-then-core-view-clause-rule : goal.returns-then-core-view-clause-rule
returns-then-core-view-clause-rule c = λ a its.
    let core = c.args.core.now in
    let d = c.args.do_view_change in
    keep_later core c.enter_and_keep.new.core c.args.view c.enter_and_keep.result d.replica a (sym c.primary.ensures.primary ∙ c.if-primary-core.false)
    (subst (λ b. Tells core (λ w r. takes_part r.status) b) c.if-takes_part.true c.takes_part.ensures) c.if-core-view.true (c.enter_and_keep.ensures.rule a its)

pub returns-then-changes_to-clause-rule : goal.returns-then-changes_to-clause-rule
returns-then-changes_to-clause-rule c = λ a its.
    let core = c.args.core.now in
    let d = c.args.do_view_change in
    keep_here core c.keep_handed.new.core c.args.view c.keep_handed.result d.replica a (sym c.primary.ensures.primary ∙ c.if-primary-core.false)
    (subst (λ b. Tells core (λ w r. is_view_change r.status && eqb r.view c.args.view) b) c.if-changes_to.true c.changes_to.ensures.told) (c.keep_handed.ensures.rule a its)
