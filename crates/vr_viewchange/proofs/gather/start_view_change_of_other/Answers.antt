use Rattle.std.proofs.Common.{eqb, ◌&&◌, subst}
use Rattle.vr_model.specs.Replicas.{takes_part, is_view_change}
use Rattle.vr_core.specs.Follows.{Tells}
use Rattle.vr_viewchange.proofs.Gathering.{start_later, start_here}
use Rattle.vr_viewchange.proofs.gather.start_view_change_of_other.Goals as goal

pub returns-then-core-view : goal.returns-then-core-view
returns-then-core-view c =
    let core = c.args.core.now in
    start_later core c.enter_and_count.new.core c.args.view c.enter_and_count.result c.args.sender (subst (λ b. Tells core (λ w r. takes_part r.status) b) c.if-takes_part.true c.takes_part.ensures) c.if-core-view.true c.enter_and_count.ensures

pub returns-then-changes_to : goal.returns-then-changes_to
returns-then-changes_to c =
    let core = c.args.core.now in
    start_here core c.count.new.core c.args.view c.count.result c.args.sender (subst (λ b. Tells core (λ w r. is_view_change r.status && eqb r.view c.args.view) b) c.if-changes_to.true c.changes_to.ensures.told) c.count.ensures
