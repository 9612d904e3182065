use Rattle.std.proofs.Common.{◌≡◌, drop, map}
use Rattle.il_reader.specs.Grammar.{declaration}
use Rattle.il_declarations.specs.Declaring.{in_block}
use Rattle.il_declarations.specs.Walk.{declare, each}
use Rattle.il_declarations.proofs.variables.declare_each.Given as goal

abbrev pub invariant-loop-d : goal.invariant-loop-d
invariant-loop-d l = each (declare l.dialect) l.known (drop l.d-index (map (λ d. in_block l.retained (declaration d)) l.declarations)) ≡ each (declare l.dialect) l.fn.known (map (λ d. in_block l.retained (declaration d)) l.declarations)
