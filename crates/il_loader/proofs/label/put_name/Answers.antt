use Rattle.std.proofs.Common.{refl, sym, ◌∙◌}
use Rattle.il_loader.proofs.LabelTables.{put_there, keep_there}
use Rattle.il_loader.proofs.label.put_name.Goals as goal

pub returns-in_ok-insert : goal.returns-in_ok-insert
returns-in_ok-insert c = put_there c.args.names.now c.insert.new.self c.args.seen.now (record { name = c.args.name.now; at = c.args.at }) c.args.at c.args.name c.requires (sym c.contains_key.ensures ∙ c.if-not-contains_key.true) refl refl c.in_ok-insert.ensures.updates

pub returns-else-not-contains_key : goal.returns-else-not-contains_key
returns-else-not-contains_key c = keep_there c.args.names.now c.args.seen.now (record { name = c.args.name.now; at = c.args.at }) c.args.at c.requires (sym c.contains_key.ensures ∙ c.if-not-contains_key.false) refl
