use Rattle.std.proofs.Common.{◌∙◌, sym}
use Rattle.vr_recovery.proofs.Table.{keeps_old, keeps_new}
use Rattle.vr_recovery.proofs.responses.keep.Goals as goal

pub returns-then-stays_kept-clause-kept : goal.returns-then-stays_kept-clause-kept
returns-then-stays_kept-clause-kept c = keeps_old c.args.core.now c.args.sender c.args.response c.requires.recovers c.requires.member (sym c.stays_kept.ensures ∙ c.if-stays_kept.true)

pub returns-clause-kept : goal.returns-clause-kept
returns-clause-kept c =
    keeps_new c.args.core.now c.put.new.core c.args.sender c.args.response c.requires.recovers c.requires.member (sym c.stays_kept.ensures ∙ c.if-stays_kept.false) c.put.ensures.others c.put.ensures.after
