use Rattle.std.proofs.Common.{◌≡◌, ◌+◌, drop, true, false, map, get_or, refl, sym, subst, ◌∙◌}
use Rattle.std.specs.List.{list_any}
use Rattle.std.proofs.lemmas.List.{at_drop_more, at_drop_all}
use Rattle.il_reader.specs.Grammar.{argument}
use Rattle.il_units.specs.declared.members.Member.{Member}
use Rattle.il_units.specs.Misuse.{is_missing}
use Rattle.il_units.proofs.misuse.is_one_missing.Goals as goal

pub returns-then-missing : goal.returns-then-missing
returns-then-missing c =
    let test = is_missing (map argument c.args.args.now) in
    let ms = c.args.members.now in
    let here : test (get_or ms c.loop-m.m-index c.m-item.result) ≡ true = subst (λ (m : Member). test m ≡ true) c.m-item.is (sym c.in_ok-missing.ensures ∙ c.if-missing.true) in
    let one : list_any test (drop c.loop-m.m-index ms) ≡ true = at_drop_more (list_any test) ms c.loop-m.m-index c.m-item.result c.loop-m-test.true ∙ rw here refl in
    sym one ∙ c.loop-m.invariant

pub loop-m-preserved : goal.loop-m-preserved
loop-m-preserved c =
    let test = is_missing (map argument c.args.args.now) in
    let ms = c.args.members.now in
    let here : test (get_or ms c.loop-m.m-index c.m-item.result) ≡ false = subst (λ (m : Member). test m ≡ false) c.m-item.is (sym c.in_ok-missing.ensures ∙ c.if-missing.false) in
    let one : list_any test (drop c.loop-m.m-index ms) ≡ list_any test (drop (c.loop-m.m-index + 1) ms) = at_drop_more (list_any test) ms c.loop-m.m-index c.m-item.result c.loop-m-test.true ∙ rw here refl in
    sym one ∙ c.loop-m.invariant

pub returns : goal.returns
returns c = sym (at_drop_all (list_any (is_missing (map argument c.args.args.now))) c.args.members.now c.loop-m.m-index c.loop-m-test.false) ∙ c.loop-m.invariant
