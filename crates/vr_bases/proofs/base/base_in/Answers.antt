use Rattle.std.proofs.Common.{rules, Some, ap}
use Rattle.vr_bases.proofs.Behind.{told_behind, read_whole, none_found}
use Rattle.vr_bases.proofs.base.base_in.Goals as goal

pub returns-in-Some : goal.returns-in-Some
returns-in-Some c = λ m log fits is.
    let bytes = c.args.bytes.now in
    let event = told_behind c.what_was_taken_up_is_read.ensures bytes c.split_at.result.1.now m log c.in_ok-read_input.field-0 (search rules) fits is c.in_ok-read_input.ensures in
    ap Some (read_whole bytes m log c.told_in.result c.in-Some.told c.with_marks.result fits is (c.told_in.ensures m.view m.last_normal_view m.commit_number log event) c.in-Some.is c.with_marks.ensures)

pub returns-in-None : goal.returns-in-None
returns-in-None c = λ m log fits is.
    let bytes = c.args.bytes.now in
    let event = told_behind c.what_was_taken_up_is_read.ensures bytes c.split_at.result.1.now m log c.in_ok-read_input.field-0 (search rules) fits is c.in_ok-read_input.ensures in
    absurd (none_found c.told_in.result _ (c.told_in.ensures m.view m.last_normal_view m.commit_number log event) c.in-None.is)
