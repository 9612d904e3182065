use Rattle.std.proofs.Common.{◌≤◌, length, take}
use Rattle.net_records.specs.Ends.{Unwraps}
use Rattle.net_records.proofs.incoming.Incoming.unwrap.Given as goal

-- what was given so far is of the front of what waited
abbrev pub invariant-turns : goal.invariant-turns
invariant-turns l = record { fits : l.given ≤ length l.out; given : Unwraps l.initial.self l.self (take l.given l.out) }

abbrev pub decreases-turns : goal.decreases-turns
decreases-turns l = length l.self.waiting
