use Rattle.std.proofs.Common.{◌≡◌, true, false, length, map, Some, sym, ap, ◌∙◌, refl, rules}
use Rattle.toml.specs.View.{view}
use Rattle.plc_group.specs.Values.{is_size}
use Rattle.plc_group.proofs.Sizes.{array_machines}
use Rattle.plc_group.proofs.values.machines_of.Goals as goal

pub returns-then-is_size : goal.returns-then-is_size
returns-then-is_size c =
    let vs = c.in_ok-values.values.now.items in
    let size : is_size (length vs) ≡ true = search rules in
    ap (λ ws. Some (map view ws)) c.as_slice.ensures.value
    ∙ sym (array_machines (view c.args.value.now) vs (sym c.in_ok-values.ensures) ∙ rw size refl)

pub returns-else-is_size : goal.returns-else-is_size
returns-else-is_size c =
    let vs = c.in_ok-values.values.now.items in
    let size : is_size (length vs) ≡ false = search rules in
    sym (array_machines (view c.args.value.now) vs (sym c.in_ok-values.ensures) ∙ rw size refl)
