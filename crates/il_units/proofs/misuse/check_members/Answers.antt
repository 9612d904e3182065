use Rattle.std.proofs.Common.{[]}
use Rattle.std.proofs.lemmas.Result.{err_from_is_err_and}
use Rattle.il_units.specs.Misuse.{members_fault}
use Rattle.il_units.proofs.Checks.{members_go_on, members_end, members_done}
use Rattle.il_units.proofs.misuse.check_members.Goals as goal

pub returns-in_err-check_member : goal.returns-in_err-check_member
returns-in_err-check_member c =
    let h = c.args.head in
    let p = err_from_is_err_and c.from_residual.result c.from_residual.ensures.1 in
    rw (p.1, p.2) (members_end c.in_err-check_member.field-0.0 h.above.now h.kind h.name.now h.left c.args.members.now c.loop-i.i c.index-members-i.result (members_fault h.above.now h.kind h.name.now h.left [] c.args.members.now) c.loop-i-test.true c.index-members-i.is c.in_err-check_member.ensures c.loop-i.invariant)

pub loop-i-preserved : goal.loop-i-preserved
loop-i-preserved c =
    let h = c.args.head in
    members_go_on h.above.now h.kind h.name.now h.left c.args.members.now c.loop-i.i c.index-members-i.result (members_fault h.above.now h.kind h.name.now h.left [] c.args.members.now) c.loop-i-test.true c.index-members-i.is c.in_ok-check_member.ensures c.loop-i.invariant

pub returns : goal.returns
returns c =
    let h = c.args.head in
    members_done h.above.now h.kind h.name.now h.left c.args.members.now c.loop-i.i (members_fault h.above.now h.kind h.name.now h.left [] c.args.members.now) c.loop-i-test.false c.loop-i.invariant
