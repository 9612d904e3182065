use Rattle.std.proofs.Common.{◌≡◌, ◌++◌, [], suc, map, take, drop, length}
use Rattle.il_units.specs.Misuse.{members_fault}
use Rattle.il_units.proofs.misuse.check_members.Given as goal

abbrev pub invariant-loop-i : goal.invariant-loop-i
invariant-loop-i l = members_fault l.head.above.now l.head.kind l.head.name.now l.head.left (take l.i l.members) (drop l.i l.members) ≡ members_fault l.head.above.now l.head.kind l.head.name.now l.head.left [] l.members
