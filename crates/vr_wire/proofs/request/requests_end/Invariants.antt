use Rattle.std.proofs.Common.{◌≡◌, ◌-◌}
use Rattle.vr_wire.specs.MessageReading.{request_at}
use Rattle.vr_wire.specs.Reading.{items_at, end_of}
use Rattle.vr_wire.proofs.request.requests_end.Given as goal

abbrev pub invariant-loop : goal.invariant-loop
invariant-loop l = end_of (items_at request_at (l.count - l.counter)) l.rest ≡ end_of (items_at request_at l.count) l.bytes
