use Rattle.net_peers.specs.Passing.{MayPass}
use Rattle.net_peers.proofs.connection.Connection.read.Given as goal

-- what came so far may pass, if what was there may
abbrev pub invariant-loop : goal.invariant-loop
invariant-loop l = MayPass l.from l.own l.initial.came.items → MayPass l.from l.own l.came.items
