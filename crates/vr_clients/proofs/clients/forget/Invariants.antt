use Rattle.std.proofs.Common.{◌≡◌, ℕ, ◌<◌, ◌≤◌}
use Rattle.vr_clients.specs.Clients.{client_at, only_executed}
use Rattle.vr_clients.proofs.clients.forget.Given as goal

abbrev pub invariant-loop-i : goal.invariant-loop-i
invariant-loop-i l = record {
  forgot : (k : ℕ) → k < l.i → client_at l.clients k ≡ only_executed (client_at l.initial.clients k);
  rest : (k : ℕ) → l.i ≤ k → client_at l.clients k ≡ client_at l.initial.clients k;
}
