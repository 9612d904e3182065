use Rattle.std.proofs.Common.{◌≡◌, Some, rules}
use Rattle.serde_json.specs.Find.{as_array}
use Rattle.serde_json.specs.View.{view, items_view}
use Rattle.plc_json.proofs.Nesting.{all_nest}
use Rattle.plc_json.proofs.Texts.{has_texts, no_texts}
use Rattle.plc_json.proofs.question.command_texts.Goals as goal

pub each_text-requires : goal.each_text-requires
each_text-requires c =
    let array : Some (items_view c.as_slice.result.now) ≡ as_array (view c.in_ok-json.json) = search rules in
    all_nest (view c.in_ok-json.json) c.as_slice.result.now array c.in_ok-json.ensures.nests

pub returns-clause-found : goal.returns-clause-found
returns-clause-found c =
    let array : Some (items_view c.as_slice.result.now) ≡ as_array (view c.in_ok-json.json) = search rules in
    has_texts c.args.text.now (view c.in_ok-json.json) c.as_slice.result.now c.in_ok-json.ensures.ok.1 array c.each_text.result c.in_ok-json.ensures.ok.0 c.each_text.ensures.found

pub returns-clause-refused : goal.returns-clause-refused
returns-clause-refused c =
    let array : Some (items_view c.as_slice.result.now) ≡ as_array (view c.in_ok-json.json) = search rules in
    no_texts c.args.text.now (view c.in_ok-json.json) c.as_slice.result.now c.in_ok-json.ensures.ok.1 array c.each_text.result c.each_text.ensures.refused
