use Rattle.std.proofs.Common.{arith}
use Rattle.vr_bases.proofs.Behind.{too_short, found_is, not_both}
use Rattle.vr_bases.proofs.base.read.Goals as goal

pub returns-then-bytes-lt-MARKS_LENGTH-clause-none : goal.returns-then-bytes-lt-MARKS_LENGTH-clause-none
returns-then-bytes-lt-MARKS_LENGTH-clause-none c = λ up m log fits is. too_short c.args.bytes.now m log fits is (omega arith)

pub returns-else-branch-clause-none : goal.returns-else-branch-clause-none
returns-else-branch-clause-none c = λ up m log fits is.
    let own = found_is c.args.bytes.now m log c.in_ok-base.field-0 c.in-Some.base c.in-Some.is (c.in_ok-base.ensures m log fits is) is in
    absurd (not_both c.in_ok-is_base.field-0 (c.in_ok-is_base.ensures.1 own) c.if-branch.false)
