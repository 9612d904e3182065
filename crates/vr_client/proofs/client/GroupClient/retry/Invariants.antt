use Rattle.std.proofs.Common.{◌≡◌, ℕ, List, [], map, Some}
use Rattle.il_model.specs.declared.command.Command.{Command}
use Rattle.il_model.specs.declared.command.Answer.{Answer}
use Rattle.vr_model.specs.StandsFor.{message_with, request_of}
use Rattle.vr_model.specs.World.{retried}
use Rattle.vr_client.proofs.client.GroupClient.retry.Given as goal

abbrev pub invariant-loop-replica : goal.invariant-loop-replica
invariant-loop-replica l = (f : ℕ) (answer : List Command → Answer) → map (message_with []) l.sends.items ≡ retried f answer l.self.number l.replica (Some (request_of l.request))
