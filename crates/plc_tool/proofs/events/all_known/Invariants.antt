use Rattle.std.proofs.Common.{take}
use Rattle.plc_tool.specs.Simulated.{AreKnown}
use Rattle.plc_tool.proofs.events.all_known.Given as goal

abbrev pub invariant-loop-asked : goal.invariant-loop-asked
invariant-loop-asked l = AreKnown l.image (take l.asked-index l.named) l.events.items
