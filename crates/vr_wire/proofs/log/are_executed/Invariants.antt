use Rattle.std.proofs.Common.{take}
use Rattle.std.specs.List.{AllByRecursion}
use Rattle.vr_wire.specs.Logs.{IsExecuted}
use Rattle.vr_wire.proofs.log.are_executed.Given as goal

abbrev pub invariant-loop-executed : goal.invariant-loop-executed
invariant-loop-executed l = AllByRecursion IsExecuted (take l.executed-index l.clients)
