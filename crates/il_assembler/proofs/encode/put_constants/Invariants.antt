use Rattle.std.proofs.Common.{◌≡◌, ◌++◌, take}
use Rattle.std.specs.List.{flat_map}
use Rattle.il_model.specs.Image.{constant_bytes}
use Rattle.il_assembler.proofs.encode.put_constants.Given as goal

abbrev pub invariant-loop-v : goal.invariant-loop-v
invariant-loop-v l = l.out.items ≡ l.fn.out.items ++ flat_map (constant_bytes l.version) (take l.v-index l.constants)
