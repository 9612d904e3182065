use Rattle.std.proofs.Common.{◌≡◌, ◌++◌, take}
use Rattle.std.specs.List.{flat_map}
use Rattle.il_model.specs.Image.{instance_bytes}
use Rattle.il_assembler.proofs.encode.put_instances.Given as goal

abbrev pub invariant-loop-x : goal.invariant-loop-x
invariant-loop-x l = l.out.items ≡ l.fn.out.items ++ flat_map instance_bytes (take l.x-index l.xs)
