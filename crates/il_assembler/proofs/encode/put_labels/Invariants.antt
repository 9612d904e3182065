use Rattle.std.proofs.Common.{◌≡◌, ◌++◌, drop}
use Rattle.std.specs.List.{flat_map}
use Rattle.il_model.specs.Marks.{marks_from, address_of}
use Rattle.il_model.specs.Image.{mark_bytes}
use Rattle.il_assembler.proofs.encode.put_labels.Given as goal

abbrev pub invariant-loop-n : goal.invariant-loop-n
invariant-loop-n l = l.out.items ++ flat_map mark_bytes (marks_from (address_of l.code l.n) (drop l.n l.code)) ≡ l.fn.out.items ++ flat_map mark_bytes (marks_from 0 l.code)
