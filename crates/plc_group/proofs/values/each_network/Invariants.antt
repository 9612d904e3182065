use Rattle.std.proofs.Common.{◌≡◌, [], drop, map}
use Rattle.toml.specs.View.{view}
use Rattle.plc_group.specs.Values.{networks_from}
use Rattle.plc_group.proofs.values.each_network.Given as goal

-- what was read, and behind it what the rest gives
abbrev pub invariant-loop-value : goal.invariant-loop-value
invariant-loop-value l = networks_from l.networks.networks.items (drop l.value-index (map view l.values)) ≡ networks_from [] (map view l.values)
