use Rattle.std.proofs.Common.{◌≡◌, Some, rules}
use Rattle.serde_json.specs.Find.{as_array}
use Rattle.serde_json.specs.View.{view, items_view}
use Rattle.plc_json.proofs.NameLists.{listed_names}
use Rattle.plc_json.proofs.question.names_in.Goals as goal

pub returns : goal.returns
returns c =
    let array : Some (items_view c.as_slice.result.now) ≡ as_array (view c.args.list.now) = search rules in
    listed_names (view c.args.list.now) c.as_slice.result.now c.each_name.result array c.each_name.ensures
