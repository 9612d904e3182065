use Rattle.std.proofs.Common.{◌≡◌, ◌+◌, ◌∷◌, true, false, drop, map, sym, ap, subst, ◌∙◌, rules}
use Rattle.toml.specs.View.{view}
use Rattle.plc_group.specs.Values.{added, networks_from, with_value}
use Rattle.plc_group.proofs.Networks.{none_added, one_added}
use Rattle.plc_group.proofs.Walks.{drop_view}
use Rattle.plc_group.proofs.values.each_network.Goals as goal

pub returns-then-not-branch : goal.returns-then-not-branch
returns-then-not-branch c =
    let ds = map view c.args.values.now in
    let i = c.loop-value.value-index in
    let v = c.value-item.result in
    let before = c.loop-value.networks.networks.items in
    let after = c.is_added.new.networks.networks.items in
    let is_not : c.in_ok-is_added.field-0 ≡ false = search rules in
    let here : drop i ds ≡ view v ∷ drop (i + 1) ds = drop_view c.args.values.now i v c.loop-value-test.true c.value-item.is in
    sym (sym c.loop-value.invariant
    ∙ ap (networks_from before) here
    ∙ none_added before after (view v) (drop (i + 1) ds) (subst (λ b. added b after ≡ with_value before (view v)) is_not c.in_ok-is_added.ensures))

pub loop-value-preserved : goal.loop-value-preserved
loop-value-preserved c =
    let ds = map view c.args.values.now in
    let i = c.loop-value.value-index in
    let v = c.value-item.result in
    let before = c.loop-value.networks.networks.items in
    let after = c.is_added.new.networks.networks.items in
    let is_so : c.in_ok-is_added.field-0 ≡ true = search rules in
    let here : drop i ds ≡ view v ∷ drop (i + 1) ds = drop_view c.args.values.now i v c.loop-value-test.true c.value-item.is in
    sym (one_added before after (view v) (drop (i + 1) ds) (subst (λ b. added b after ≡ with_value before (view v)) is_so c.in_ok-is_added.ensures))
    ∙ ap (networks_from before) (sym here)
    ∙ c.loop-value.invariant
