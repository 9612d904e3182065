use Rattle.std.proofs.Common.{◌<◌, subst}
use Rattle.vr_viewchange.proofs.Adopting.{start_short}
use Rattle.vr_viewchange.proofs.start_view.start_view_of_other.Goals as goal

pub returns-then-op_number-core-clause-rule : goal.returns-then-op_number-core-clause-rule
returns-then-op_number-core-clause-rule c = λ l its.
    let core = c.args.core.now in
    start_short core c.args.log c.args.view c.args.commit_number l its (subst (λ n. n < core.commit_number) c.op_number.ensures.value c.if-op_number-core.true) c.new-then-op_number-core.result c.new-then-op_number-core.ensures.items
