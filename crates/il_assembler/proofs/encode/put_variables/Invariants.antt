use Rattle.std.proofs.Common.{◌≡◌, ◌++◌, take}
use Rattle.std.specs.List.{flat_map}
use Rattle.il_model.specs.Image.{variable_bytes}
use Rattle.il_assembler.proofs.encode.put_variables.Given as goal

abbrev pub invariant-loop-v : goal.invariant-loop-v
invariant-loop-v l = l.out.items ≡ l.fn.out.items ++ flat_map (variable_bytes l.version) (take l.v-index l.vs)
