use Rattle.std.proofs.Common.{◌+◌, List, [], ◌∷◌, map, drop, sym, ap, ◌∙◌}
use Rattle.std.proofs.lemmas.List.{map-append}
use Rattle.serde_json.specs.View.{view}
use Rattle.plc_json.specs.Events.{Scheduled, scheduled, event_of}
use Rattle.plc_json.specs.declared.event.NamedEvent.{NamedEvent}
use Rattle.plc_json.proofs.Each.{behind, tells, tells_none}
use Rattle.plc_json.proofs.Whole.{handed}
use Rattle.plc_json.proofs.event.each_event.Goals as goal

pub returns-in_err-next-clause-refused : goal.returns-in_err-next-clause-refused
returns-in_err-next-clause-refused c =
    handed c.from_residual.result _ c.from_residual.ensures.1
    (λ shape. sym c.loop-json.invariant ∙ tells_none event_of (map scheduled c.loop-json.events.items) c.args.items.now c.loop-json.json-index c.json-item.result c.loop-json-test.true c.json-item.is (c.in_err-next.ensures.refused shape))

pub loop-json-preserved : goal.loop-json-preserved
loop-json-preserved c =
    let rest = drop (c.loop-json.json-index + 1) (map view c.args.items.now) in
    ap (λ (es : List NamedEvent). behind event_of (map scheduled es) rest) c.in_ok-push.ensures.items
    ∙ ap (λ (ns : List Scheduled). behind event_of ns rest) (map-append scheduled c.loop-json.events.items (c.in_ok-next.next ∷ []))
    ∙ sym (tells event_of (map scheduled c.loop-json.events.items) c.args.items.now c.loop-json.json-index c.json-item.result c.loop-json-test.true c.json-item.is (scheduled c.in_ok-next.next) c.in_ok-next.ensures.found)
    ∙ c.loop-json.invariant
