use Rattle.std.proofs.Common.{refl, ◌∙◌, sym, ap, List, ℕ, length}
use Rattle.il_model.specs.Words.{same_name}
use Rattle.il_model.proofs.Indexing.{put_behind, keep_behind}
use Rattle.il_loader.specs.NameTables.{is_named}
use Rattle.il_loader.proofs.variable.put_number.Goals as goal

pub returns-in_ok-insert : goal.returns-in_ok-insert
returns-in_ok-insert c = λ name. put_behind is_named c.args.numbers.now c.insert.new.self c.args.seen.now c.args.v.now (length c.args.seen.now) c.args.name.now name c.in_ok-insert.ensures.updates (ap (λ (key : List ℕ). same_name key name) c.requires.name) refl (sym c.contains_key.ensures ∙ c.if-not-contains_key.true) c.requires.numbers

pub returns-else-not-contains_key : goal.returns-else-not-contains_key
returns-else-not-contains_key c = λ name. keep_behind is_named c.args.numbers.now c.args.seen.now c.args.v.now c.args.name.now name (ap (λ (key : List ℕ). same_name key name) c.requires.name) (sym c.contains_key.ensures ∙ c.if-not-contains_key.false) c.requires.numbers
