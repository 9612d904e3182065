use Rattle.std.proofs.Common.{◌-◌, take, drop}
use Rattle.vr_model.specs.Checkpoints.{requests_of}
use Rattle.vr_clients.specs.Clients.{KnowsMore}
use Rattle.vr_clients.proofs.clients.ClientTable.note_from.Given as goal

abbrev pub invariant-loop-place : goal.invariant-loop-place
invariant-loop-place l = KnowsMore l.initial.self (requests_of (take (l.place - l.from) (drop l.from l.log))) l.self
