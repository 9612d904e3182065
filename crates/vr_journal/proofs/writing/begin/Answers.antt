use Rattle.std.proofs.Common.{◌∙◌}
use Rattle.vr_journal.proofs.NewFiles.{begun, begun_sum}
use Rattle.vr_journal.proofs.writing.begin.Goals as goal

pub returns-clause-spelt : goal.returns-clause-spelt
returns-clause-spelt c =
    begun c.new-out.result.items c.put.new.out.items c.put_number.new.out.items c.put-2.new.out.items c.as_slice.result.now c.args.owner.now c.args.base.now c.args.generation c.args.start
    c.in_ok-sum.sum c.in_ok-sum-2.sum c.new-out.ensures.items (c.as_slice.ensures.value ∙ c.in_ok-head.ensures) c.in_ok-sum.ensures.put c.in_ok-sum.ensures.sum
    c.in_ok-sum-2.ensures.put c.in_ok-sum-2.ensures.sum c.in_ok-sum-3.ensures.put

pub returns-clause-sum : goal.returns-clause-sum
returns-clause-sum c =
    begun_sum c.as_slice.result.now c.args.owner.now c.args.base.now c.args.generation c.args.start c.in_ok-sum.sum c.in_ok-sum-2.sum c.in_ok-sum-3.sum
    (c.as_slice.ensures.value ∙ c.in_ok-head.ensures) c.in_ok-sum.ensures.sum c.in_ok-sum-2.ensures.sum c.in_ok-sum-3.ensures.sum
