use Rattle.std.proofs.Common.{◌≡◌, List, [], map, Option, IfOk, option_map, sym, ap, subst, ◌∙◌}
use Rattle.toml.specs.View.{view}
use Rattle.net_addresses.specs.declared.network.Network.{Network}
use Rattle.net_addresses.specs.declared.networks.Networks.{Networks}
use Rattle.plc_group.specs.Values.{networks_from, networks_of}
use Rattle.plc_group.proofs.Sizes.{array_networks}
use Rattle.plc_group.proofs.values.networks_of.Goals as goal

pub returns-in-Some : goal.returns-in-Some
returns-in-Some c =
    let is : networks_from [] (map view c.as_slice.result.now) ≡ networks_of (view c.args.value.now) =
    ap (λ ws. networks_from [] (map view ws)) c.as_slice.ensures.value
    ∙ sym (array_networks (view c.args.value.now) c.in-Some.values.now.items (sym c.in-Some.ensures)) in
    subst (λ (r : Option (List Network)). IfOk c.each_network.result (λ o. option_map (λ (n : Networks). n.networks.items) o ≡ r)) is c.each_network.ensures
