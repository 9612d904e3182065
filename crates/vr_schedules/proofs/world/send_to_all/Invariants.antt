use Rattle.std.proofs.Common.{◌≡◌, ◌++◌}
use Rattle.vr_schedules.specs.Clients.{requests_below}
use Rattle.vr_schedules.proofs.world.send_to_all.Given as goal

abbrev pub invariant-loop-replica : goal.invariant-loop-replica
invariant-loop-replica l = l.sent.items ≡ l.initial.sent.items ++ requests_below l.client l.replica l.request
