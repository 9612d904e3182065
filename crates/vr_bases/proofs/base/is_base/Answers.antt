use Rattle.std.proofs.Common.{rules, subst}
use Rattle.vr_model.specs.Checkpoints.{KeptLog}
use Rattle.vr_bases.specs.Spelling.{IsBase}
use Rattle.vr_bases.proofs.Behind.{same_bytes}
use Rattle.vr_bases.proofs.base.is_base.Goals as goal

pub returns-in-Ok : goal.returns-in-Ok
returns-in-Ok c =
    let spelled = c.in-Ok.spelled.items in
    let base = c.args.base.now in
    let own : IsBase spelled base.marks base.log = subst (λ (l : KeptLog). IsBase spelled base.marks l) c.in_ok-copy.ensures c.in-Ok.ensures.ok in
    same_bytes spelled c.args.bytes.now base.marks base.log c.eq.result own (λ t. search (rules, t), λ e. search (rules, e))
