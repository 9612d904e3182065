use Rattle.net_links.specs.Own.{AreBetween}
use Rattle.net_links.proofs.peer.Connection.read.Given as goal

-- what came so far is from the one to the other, if what was there is
abbrev pub invariant-loop : goal.invariant-loop
invariant-loop l = AreBetween l.from l.to l.initial.came.items → AreBetween l.from l.to l.came.items
