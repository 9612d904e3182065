use Rattle.std.proofs.Common.{◌≡◌, take}
use Rattle.vr_clients.specs.Clients.{answers_of}
use Rattle.vr_clients.proofs.clients.ClientTable.executed.Given as goal

abbrev pub invariant-loop-place : goal.invariant-loop-place
invariant-loop-place l = l.answers.items ≡ answers_of (take l.place l.self)
