use Rattle.std.proofs.Common.{sym, ap, ◌∙◌}
use Rattle.std.specs.Prelude.{is_some, not}
use Rattle.il_model.proofs.ConstantKeys.{put_place, keep_place}
use Rattle.il_model.proofs.constant_table.put.Goals as goal

pub returns-in_ok-insert : goal.returns-in_ok-insert
returns-in_ok-insert c = put_place c.args.places.now c.insert.new.self c.args.found.now c.args.v c.key.result c.requires
    (ap is_some (sym c.place_in.ensures) ∙ (c.is_none.ensures ∙ ap not c.if-is_none.true)) c.key.ensures c.in_ok-insert.ensures.updates

pub returns-else-is_none : goal.returns-else-is_none
returns-else-is_none c = keep_place c.args.places.now c.args.found.now c.args.v c.requires
    (ap is_some (sym c.place_in.ensures) ∙ (c.is_none.ensures ∙ ap not c.if-is_none.false))
