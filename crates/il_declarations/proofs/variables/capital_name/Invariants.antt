use Rattle.std.proofs.Common.{◌≡◌, take, map}
use Rattle.il_values.specs.Spelled.{upper}
use Rattle.il_declarations.proofs.variables.capital_name.Given as goal

abbrev pub invariant-loop-b : goal.invariant-loop-b
invariant-loop-b l = l.bytes.items ≡ map upper (take l.b-index l.text)
