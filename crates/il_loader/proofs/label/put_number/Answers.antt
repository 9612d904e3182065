use Rattle.std.proofs.Common.{refl, sym, ◌∙◌, length}
use Rattle.il_model.proofs.Indexing.{put_behind, keep_behind}
use Rattle.il_loader.specs.NameTables.{is_called}
use Rattle.il_loader.proofs.label.put_number.Goals as goal

pub returns-in_ok-insert : goal.returns-in_ok-insert
returns-in_ok-insert c = λ name. put_behind is_called c.args.numbers.now c.insert.new.self c.args.seen.now (record { name = c.args.name.now; at = c.args.at }) (length c.args.seen.now) c.args.name.now name c.in_ok-insert.ensures.updates refl refl (sym c.contains_key.ensures ∙ c.if-not-contains_key.true) c.requires

pub returns-else-not-contains_key : goal.returns-else-not-contains_key
returns-else-not-contains_key c = λ name. keep_behind is_called c.args.numbers.now c.args.seen.now (record { name = c.args.name.now; at = c.args.at }) c.args.name.now name refl (sym c.contains_key.ensures ∙ c.if-not-contains_key.false) c.requires
