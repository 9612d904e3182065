use Rattle.std.proofs.Common.{◌≡◌, drop, map}
use Rattle.il_reader.specs.Tokens.{token}
use Rattle.il_declarations.specs.Walk.{declare_name, each}
use Rattle.il_declarations.proofs.variables.push_names.Given as goal

abbrev pub invariant-loop-name : goal.invariant-loop-name
invariant-loop-name l = each (declare_name l.dialect l.plan) l.known (drop l.name-index (map token l.names)) ≡ each (declare_name l.dialect l.plan) l.fn.known (map token l.names)
