use Rattle.std.proofs.Common.{true, false, sym, ◌∙◌}
use Rattle.vr_core.proofs.Unfit.{not_some_unfit}
use Rattle.vr_recovery.proofs.OnNewState.{mapped_some, entries_fit}
use Rattle.vr_recovery.proofs.catching_up.new_state_of_other.Goals as goal

pub on_checkpoint-requires : goal.on_checkpoint-requires
on_checkpoint-requires c = mapped_some _ c.checkpoint.result c.args.log.checkpoint true c.checkpoint.ensures (sym c.is_some.ensures ∙ c.if-is_some.true)

pub returns-else-is_some-clause-rule : goal.returns-else-is_some-clause-rule
returns-else-is_some-clause-rule c = λ l its.
    entries_fit c.args.core.now c.on_entries.new.core c.args.view c.args.op_number c.args.commit_number c.args.log c.into_entries.result.items l c.on_entries.result
    (mapped_some _ c.checkpoint.result c.args.log.checkpoint false c.checkpoint.ensures (sym c.is_some.ensures ∙ c.if-is_some.false)) c.into_entries.ensures its c.on_entries.ensures

pub returns-else-is_some-clause-dropped : goal.returns-else-is_some-clause-dropped
returns-else-is_some-clause-dropped c = λ unfit.
    absurd (not_some_unfit c.args.core.now c.args.commit_number c.args.log (mapped_some _ c.checkpoint.result c.args.log.checkpoint false c.checkpoint.ensures (sym c.is_some.ensures ∙ c.if-is_some.false)) unfit)
