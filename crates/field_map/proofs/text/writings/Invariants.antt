use Rattle.std.proofs.Common.{◌≤◌, length}
use Rattle.field_map.specs.declared.device.TheConstants.{MOST_WRITINGS}
use Rattle.field_map.proofs.text.writings.Given as goal

abbrev pub invariant-loop-index : goal.invariant-loop-index
invariant-loop-index l = length l.writings.items ≤ MOST_WRITINGS
