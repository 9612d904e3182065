use Rattle.std.proofs.Common.{◌+◌, ◌++◌, [], ◌∷◌, map, sym, ◌∙◌}
use Rattle.std.proofs.lemmas.List.{map-append}
use Rattle.serde_json.specs.View.{view}
use Rattle.plc_json.specs.Asking.{asking_in, asking_of, bytes_of}
use Rattle.plc_json.proofs.Each.{tells, tells_none}
use Rattle.plc_json.proofs.Nesting.{nests_at}
use Rattle.plc_json.proofs.Texts.{all_more, told_none, told_all}
use Rattle.plc_json.proofs.Whole.{handed}
use Rattle.plc_json.proofs.question.each_text.Goals as goal

pub one_text-requires : goal.one_text-requires
one_text-requires c = nests_at c.args.items.now c.loop-json.json-index c.json-item.result c.requires c.loop-json-test.true c.json-item.is

pub returns-in_err-next-clause-refused : goal.returns-in_err-next-clause-refused
returns-in_err-next-clause-refused c =
    handed c.from_residual.result _ c.from_residual.ensures.1
    (λ shape. sym c.loop-json.invariant.behind_is ∙ tells_none asking_of c.loop-json.invariant.told c.args.items.now c.loop-json.json-index c.json-item.result c.loop-json-test.true c.json-item.is (c.in_err-next.ensures.refused shape))

pub loop-json-preserved : goal.loop-json-preserved
loop-json-preserved c =
    let before = c.loop-json.invariant in
    let next = c.in_ok-next.ensures.found in
    record {
      told = before.told ++ next.0 ∷ [];
      behind_is = sym (tells asking_of before.told c.args.items.now c.loop-json.json-index c.json-item.result c.loop-json-test.true c.json-item.is next.0 next.1) ∙ before.behind_is;
      texts_are = rw (c.in_ok-push.ensures.items, map-append) (all_more asking_in (map bytes_of c.loop-json.texts.items) (bytes_of c.in_ok-next.next) before.told next.0 before.texts_are next.2);
    }

pub loop-json-init : goal.loop-json-init
loop-json-init c = rw c.new-texts.ensures.items (told_none (map view c.args.items.now))

pub returns-clause-found : goal.returns-clause-found
returns-clause-found c = told_all c.args.items.now c.loop-json.json-index (map bytes_of c.loop-json.texts.items) c.loop-json-test.false c.loop-json.invariant
