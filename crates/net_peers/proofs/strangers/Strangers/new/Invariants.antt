use Rattle.std.proofs.Common.{◌≤◌, length}
use Rattle.net_peers.proofs.strangers.Strangers.new.Given as goal

-- there are no more places than were made
abbrev pub invariant-loop : goal.invariant-loop
invariant-loop l = length l.places.items ≤ l.counter
