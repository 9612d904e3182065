use Rattle.std.proofs.Common.{◌≡◌, length}
use Rattle.net_addresses.specs.Texts.{networks_in, texts_in, with_texts}
use Rattle.net_addresses.proofs.networks.Networks.read.Given as goal

-- what is left is to come behind what was read
abbrev pub invariant-texts : goal.invariant-texts
invariant-texts l = with_texts l.networks.networks.items (texts_in l.rest) ≡ networks_in l.text

abbrev pub decreases-texts : goal.decreases-texts
decreases-texts l = length l.rest
