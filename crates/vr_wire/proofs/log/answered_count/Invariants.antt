use Rattle.std.proofs.Common.{◌≡◌, ◌≤◌, length, take}
use Rattle.vr_wire.specs.Logs.{answered_from}
use Rattle.vr_wire.proofs.log.answered_count.Given as goal

abbrev pub invariant-loop-executed : goal.invariant-loop-executed
invariant-loop-executed l = record {
  counted : l.count ≡ length (answered_from 0 (take l.executed-index l.clients));
  few : l.count ≤ l.executed-index;
}
