use Rattle.vr_bases.proofs.Numbers.{is_read_by}
use Rattle.vr_bases.proofs.base.with_marks.Goals as goal

pub returns : goal.returns
returns c =
    let t = c.args.told in
    is_read_by c.args.bytes.now t.view t.last_normal_view t.commit_number t.log c.number_at.result c.acknowledged_in.result c.start_view_changes_in.result c.is_set_at.result c.number_at-2.result c.number_at.ensures
    c.acknowledged_in.ensures c.start_view_changes_in.ensures c.is_set_at.ensures c.number_at-2.ensures
