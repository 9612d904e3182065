use Rattle.std.proofs.Common.{◌≡◌, ℕ, ◌<◌, Option, Some}
use Rattle.std.specs.Prelude.{slice_get}
use Rattle.vr_model.specs.declared.log.Executed.{Executed}
use Rattle.vr_clients.specs.Clients.{client_at, restored}
use Rattle.vr_clients.proofs.clients.restore.Given as goal

abbrev pub invariant-loop-i : goal.invariant-loop-i
invariant-loop-i l = (k : ℕ) (e : Option Executed) → k < l.i → slice_get l.answers k ≡ Some e → client_at l.clients k ≡ restored e
