use Rattle.std.proofs.Common.{◌≡◌, ◌++◌, [], suc, map, take, drop, length}
use Rattle.std.specs.List.{flat_map}
use Rattle.il_reader.specs.Grammar.{declarations}
use Rattle.il_units.specs.Members.{declared_members}
use Rattle.il_units.proofs.members.push_declarations.Given as goal

abbrev pub invariant-loop-d : goal.invariant-loop-d
invariant-loop-d l = l.found.items ≡ l.fn.found.items ++ flat_map (declared_members l.kind l.retained) (declarations (take l.d-index l.ds))
