-- Lists of networks that are read value by value.
use Rattle.std.proofs.Common.{◌≡◌, true, false, List, ◌∷◌, None, ap, sym}
use Rattle.std.specs.Prelude.{option_and_then}
use Rattle.toml.specs.Data.{Data}
use Rattle.net_addresses.specs.declared.network.Network.{Network}
use Rattle.plc_group.specs.Values.{added, networks_from, with_value}

pub one_added : (before after : List Network) (d : Data) (rest : List Data) → added true after ≡ with_value before d → networks_from before (d ∷ rest) ≡ networks_from after rest
one_added before after d rest e = ap (λ o. option_and_then (λ more. networks_from more rest) o) (sym e)

pub none_added : (before after : List Network) (d : Data) (rest : List Data) → added false after ≡ with_value before d → networks_from before (d ∷ rest) ≡ None
none_added before after d rest e = ap (λ o. option_and_then (λ more. networks_from more rest) o) (sym e)
