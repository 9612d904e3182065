use Rattle.std.proofs.Common.{rules, true, false, Ok, ap, ◌∙◌, ◌-◌}
use Rattle.vr_model.specs.Rules.{on_new_state}
use Rattle.vr_core.specs.StandsFor.{own_group}
use Rattle.vr_recovery.proofs.Telling.{told_by}
use Rattle.vr_recovery.proofs.OnNewState.{whole_of, past_size, goes_fits, joins_fits, fits_of, not_past, not_catching}
use Rattle.vr_recovery.proofs.catching_up.on_checkpoint.Goals as goal

pub returns-then-not-is_reached-clause-rule : goal.returns-then-not-is_reached-clause-rule
returns-then-not-is_reached-clause-rule c = λ l its.
    let w = whole_of (own_group c.args.core.now) c.args.op_number c.args.commit_number c.args.log l c.requires its in
    absurd (c.is_reached.ensures.stands (search rules) c.args.core.now w.whole w.carried)

pub returns-then-goes_past-clause-rule : goal.returns-then-goes_past-clause-rule
returns-then-goes_past-clause-rule c = λ l its.
    goes_fits c.args.core.now c.take_up.new.core c.args.view c.args.op_number c.args.commit_number c.saturating_sub-count.result c.args.log l c.requires its
    (c.saturating_sub-count.ensures ∙ ap (λ n. n - c.args.op_number) c.op_number.ensures.value) c.take_up.result
    (told_by c.args.core.now _ _ true c.is_backup_in.ensures (search rules)) (told_by c.args.core.now _ _ true c.goes_past.ensures.told (search rules)) c.take_up.ensures.ok c.take_up.ensures.err

pub returns-else-goes_past-clause-rule : goal.returns-else-goes_past-clause-rule
returns-else-goes_past-clause-rule c = λ l its.
    let core = c.args.core.now in
    let size = past_size core core c.args.view c.args.op_number c.args.commit_number c.saturating_sub-count.result c.args.log l c.requires its
    (c.saturating_sub-count.ensures ∙ ap (λ n. n - c.args.op_number) c.op_number.ensures.value) (Ok c.new-else-goes_past.result) in
    fits_of core core c.args.view c.args.op_number c.args.commit_number c.args.log (λ w r. on_new_state w.f w.number w.answer r c.args.view c.args.op_number c.args.commit_number l) (Ok c.new-else-goes_past.result)
    (not_past core c.args.view c.args.op_number c.args.commit_number c.saturating_sub-count.result l size c.new-else-goes_past.result c.new-else-goes_past.ensures.items
    (told_by core _ _ true c.is_backup_in.ensures (search rules)) (told_by core _ _ false c.goes_past.ensures.told (search rules)))

pub returns-then-not-may_catch_up-clause-rule : goal.returns-then-not-may_catch_up-clause-rule
returns-then-not-may_catch_up-clause-rule c = λ l its.
    let core = c.args.core.now in
    let size = past_size core core c.args.view c.args.op_number c.args.commit_number c.saturating_sub-count.result c.args.log l c.requires its
    (c.saturating_sub-count.ensures ∙ ap (λ n. n - c.args.op_number) c.op_number.ensures.value) (Ok c.new-then-not-may_catch_up.result) in
    fits_of core core c.args.view c.args.op_number c.args.commit_number c.args.log (λ w r. on_new_state w.f w.number w.answer r c.args.view c.args.op_number c.args.commit_number l) (Ok c.new-then-not-may_catch_up.result)
    (not_catching core c.args.view c.args.op_number c.args.commit_number c.saturating_sub-count.result l size c.new-then-not-may_catch_up.result c.new-then-not-may_catch_up.ensures.items
    (told_by core _ _ false c.is_backup_in.ensures (search rules)) (told_by core _ _ false c.may_catch_up.ensures.told (search rules)))

pub returns-then-primary-core-clause-rule : goal.returns-then-primary-core-clause-rule
returns-then-primary-core-clause-rule c = λ l its.
    joins_fits c.args.core.now c.take_up_as_primary.new.core c.args.view c.args.op_number c.args.commit_number c.saturating_sub-count.result c.args.log l c.requires its
    (c.saturating_sub-count.ensures ∙ ap (λ n. n - c.args.op_number) c.op_number.ensures.value) c.take_up_as_primary.result
    (told_by c.args.core.now _ _ false c.is_backup_in.ensures (search rules)) (told_by c.args.core.now _ _ true c.may_catch_up.ensures.told (search rules)) c.take_up_as_primary.ensures.ok c.take_up_as_primary.ensures.err

pub returns-else-primary-core-clause-rule : goal.returns-else-primary-core-clause-rule
returns-else-primary-core-clause-rule c = λ l its.
    joins_fits c.args.core.now c.adopt_and_take_up.new.core c.args.view c.args.op_number c.args.commit_number c.saturating_sub-count.result c.args.log l c.requires its
    (c.saturating_sub-count.ensures ∙ ap (λ n. n - c.args.op_number) c.op_number.ensures.value) c.adopt_and_take_up.result
    (told_by c.args.core.now _ _ false c.is_backup_in.ensures (search rules)) (told_by c.args.core.now _ _ true c.may_catch_up.ensures.told (search rules)) c.adopt_and_take_up.ensures.ok c.adopt_and_take_up.ensures.err
