use Rattle.std.proofs.Common.{◌≡◌, ◌++◌, take}
use Rattle.std.specs.List.{flat_map, AllByRecursion}
use Rattle.vr_wire.specs.Logs.{client_bytes, answered_from, FitsExecuted}
use Rattle.vr_wire.proofs.log.put_answers.Given as goal

abbrev pub invariant-loop-executed : goal.invariant-loop-executed
invariant-loop-executed l = record {
  client : l.client ≡ l.executed-index;
  written : l.out.items ≡ l.fn.out.items ++ flat_map client_bytes (answered_from 0 (take l.executed-index l.clients));
  fits : AllByRecursion FitsExecuted (take l.executed-index l.clients);
}
