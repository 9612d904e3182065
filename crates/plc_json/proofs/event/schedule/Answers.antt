use Rattle.std.proofs.Common.{◌≡◌, Some, rules}
use Rattle.serde_json.specs.Find.{as_array}
use Rattle.serde_json.specs.View.{view, items_view}
use Rattle.plc_json.specs.Events.{event_of, scheduled}
use Rattle.plc_json.proofs.Whole.{has_each, has_none}
use Rattle.plc_json.proofs.event.schedule.Goals as goal

pub returns-clause-found : goal.returns-clause-found
returns-clause-found c =
    let array : Some (items_view c.as_slice.result.now) ≡ as_array (view c.in_ok-json.json) = search rules in
    has_each event_of scheduled c.args.text.now (view c.in_ok-json.json) c.as_slice.result.now c.in_ok-json.ensures.ok.1 array c.each_event.result c.in_ok-json.ensures.ok.0 c.each_event.ensures.found

pub returns-clause-refused : goal.returns-clause-refused
returns-clause-refused c =
    let array : Some (items_view c.as_slice.result.now) ≡ as_array (view c.in_ok-json.json) = search rules in
    has_none event_of scheduled c.args.text.now (view c.in_ok-json.json) c.as_slice.result.now c.in_ok-json.ensures.ok.1 array c.each_event.result c.each_event.ensures.refused
