use Rattle.std.proofs.Common.{rules, true, false, sym, ◌∙◌}
use Rattle.std.proofs.lemmas.List.{length-map}
use Rattle.vr_model.specs.Checkpoints.{request_of, requests_of}
use Rattle.vr_recovery.proofs.Telling.{told_by}
use Rattle.vr_recovery.proofs.OnNewState.{goes_kept, joins_kept, not_past, not_catching}
use Rattle.vr_recovery.proofs.catching_up.on_entries.Goals as goal

pub returns-then-goes_past : goal.returns-then-goes_past
returns-then-goes_past c =
    goes_kept c.args.core.now c.go_on.new.core c.args.view c.args.op_number c.args.commit_number _ (requests_of c.args.entries.items) (length-map c.args.entries.items request_of ∙ sym (c.len-count.ensures ∙ c.args.entries.ok.0)) c.go_on.result
    (told_by c.args.core.now _ _ true c.is_backup_in.ensures (search rules)) (told_by c.args.core.now _ _ true c.goes_past.ensures.told (search rules)) c.go_on.ensures.ok c.go_on.ensures.err

pub returns-else-goes_past : goal.returns-else-goes_past
returns-else-goes_past c =
    not_past c.args.core.now c.args.view c.args.op_number c.args.commit_number _ (requests_of c.args.entries.items) (length-map c.args.entries.items request_of ∙ sym (c.len-count.ensures ∙ c.args.entries.ok.0)) c.new.result c.new.ensures.items
    (told_by c.args.core.now _ _ true c.is_backup_in.ensures (search rules)) (told_by c.args.core.now _ _ false c.goes_past.ensures.told (search rules))

pub returns-then-not-may_catch_up : goal.returns-then-not-may_catch_up
returns-then-not-may_catch_up c =
    not_catching c.args.core.now c.args.view c.args.op_number c.args.commit_number _ (requests_of c.args.entries.items) (length-map c.args.entries.items request_of ∙ sym (c.len-count.ensures ∙ c.args.entries.ok.0)) c.new-then-not-may_catch_up.result c.new-then-not-may_catch_up.ensures.items
    (told_by c.args.core.now _ _ false c.is_backup_in.ensures (search rules)) (told_by c.args.core.now _ _ false c.may_catch_up.ensures.told (search rules))

pub returns-then-primary-core : goal.returns-then-primary-core
returns-then-primary-core c =
    joins_kept c.args.core.now c.catch_up_as_primary.new.core c.args.view c.args.op_number c.args.commit_number _ (requests_of c.args.entries.items) (length-map c.args.entries.items request_of ∙ sym (c.len-count.ensures ∙ c.args.entries.ok.0)) c.catch_up_as_primary.result
    (told_by c.args.core.now _ _ false c.is_backup_in.ensures (search rules)) (told_by c.args.core.now _ _ true c.may_catch_up.ensures.told (search rules)) c.catch_up_as_primary.ensures.ok c.catch_up_as_primary.ensures.err

pub returns-else-primary-core : goal.returns-else-primary-core
returns-else-primary-core c =
    joins_kept c.args.core.now c.catch_up.new.core c.args.view c.args.op_number c.args.commit_number _ (requests_of c.args.entries.items) (length-map c.args.entries.items request_of ∙ sym (c.len-count.ensures ∙ c.args.entries.ok.0)) c.catch_up.result
    (told_by c.args.core.now _ _ false c.is_backup_in.ensures (search rules)) (told_by c.args.core.now _ _ true c.may_catch_up.ensures.told (search rules)) c.catch_up.ensures.ok c.catch_up.ensures.err
