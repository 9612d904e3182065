use Rattle.std.proofs.Common.{◌≡◌, ◌+◌, ℕ, List, [], ◌∷◌, Some, None, String, Global, string_bytes, map, drop, sym, ap, ◌∙◌, rules}
use Rattle.std.proofs.lemmas.List.{map-append}
use Rattle.serde_json.specs.Find.{as_str}
use Rattle.serde_json.specs.View.{view}
use Rattle.plc_json.proofs.Each.{behind, tells, tells_none}
use Rattle.plc_json.proofs.question.each_name.Goals as goal

pub returns-in-None : goal.returns-in-None
returns-in-None c =
    let none : as_str (view c.json-item.result) ≡ None = search rules in
    sym (tells_none as_str (map string_bytes c.loop-json.names.items) c.args.items.now c.loop-json.json-index c.json-item.result c.loop-json-test.true c.json-item.is none)
    ∙ c.loop-json.invariant

pub loop-json-preserved : goal.loop-json-preserved
loop-json-preserved c =
    let rest = drop (c.loop-json.json-index + 1) (map view c.args.items.now) in
    let one : as_str (view c.json-item.result) ≡ Some (string_bytes c.in_ok-from_str-in-Some.field-0) = search rules in
    ap (λ (ns : List (String Global)). behind as_str (map string_bytes ns) rest) c.in_ok-push-in-Some.ensures.items
    ∙ ap (λ (ns : List (List ℕ)). behind as_str ns rest) (map-append string_bytes c.loop-json.names.items (c.in_ok-from_str-in-Some.field-0 ∷ []))
    ∙ sym (tells as_str (map string_bytes c.loop-json.names.items) c.args.items.now c.loop-json.json-index c.json-item.result c.loop-json-test.true c.json-item.is (string_bytes c.in_ok-from_str-in-Some.field-0) one)
    ∙ c.loop-json.invariant
