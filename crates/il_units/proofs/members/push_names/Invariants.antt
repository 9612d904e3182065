use Rattle.std.proofs.Common.{◌≡◌, ◌++◌, [], suc, map, take, drop, length}
use Rattle.il_reader.specs.Tokens.{token}
use Rattle.il_reader.specs.Grammar.{declaration}
use Rattle.il_units.specs.Members.{member_by}
use Rattle.il_units.proofs.members.push_names.Given as goal

abbrev pub invariant-loop-t : goal.invariant-loop-t
invariant-loop-t l = l.found.items ≡ l.fn.found.items ++ map (member_by l.kind l.retained (declaration l.d)) (map token (take l.t-index l.names))
