use Rattle.std.proofs.Common.{◌≡◌, ◌∙◌, Bor, [], refl, sym, ap, rules, tests}
use Rattle.std.specs.Prelude.{option_map}
use Rattle.std.proofs.lemmas.Iterator.{YieldsList-from_slice}
use Rattle.std.proofs.lemmas.Iterator.Search.{find_from_yields_List}
use Rattle.il_units.specs.declared.members.Member.{Member}
use Rattle.il_units.specs.Members.{has_name, member_named}
use Rattle.il_places.specs.Origins.{type_word_of}
use Rattle.il_places.proofs.calls.type_of.Goals as goal

pub returns-in_ok-from_slice-in-Some : goal.returns-in_ok-from_slice-in-Some
returns-in_ok-from_slice-in-Some c =
    let found : option_map (λ (m : Bor Member). m.now) c.find.result ≡ member_named c.args.flat.now.members c.args.name.now =
    find_from_yields_List (has_name c.args.name.now) _ _ c.find.result c.find.ensures.ran (YieldsList-from_slice c.args.flat.now.members cc) (λ x b q k. search (rules, tests)) in
    let here : type_word_of (option_map (λ (m : Bor Member). m.now) c.find.result) ≡ c.in-Some.m.now.ty.text = rw c.in-Some.is refl in
    let word : c.of.result ≡ c.in-Some.m.now.ty.text = c.of.ensures ∙ c.in_ok-from_slice-in-Some.ensures.items ∙ c.bytes.ensures in
    word ∙ sym here ∙ ap type_word_of found

pub returns-in-None : goal.returns-in-None
returns-in-None c =
    let found : option_map (λ (m : Bor Member). m.now) c.find.result ≡ member_named c.args.flat.now.members c.args.name.now =
    find_from_yields_List (has_name c.args.name.now) _ _ c.find.result c.find.ensures.ran (YieldsList-from_slice c.args.flat.now.members cc) (λ x b q k. search (rules, tests)) in
    let here : type_word_of (option_map (λ (m : Bor Member). m.now) c.find.result) ≡ [] = rw c.in-None.is refl in
    let word : c.none.result ≡ [] = cc in
    word ∙ sym here ∙ ap type_word_of found
