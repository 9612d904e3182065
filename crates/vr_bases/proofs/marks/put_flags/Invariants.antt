use Rattle.std.proofs.Common.{◌≡◌, ◌++◌, take}
use Rattle.std.specs.List.{flat_map}
use Rattle.vr_bases.specs.Spelling.{flag_bytes}
use Rattle.vr_bases.proofs.marks.put_flags.Given as goal

abbrev pub invariant-loop-is_set : goal.invariant-loop-is_set
invariant-loop-is_set l = l.out.items ≡ l.fn.out.items ++ flat_map flag_bytes (take l.is_set-index l.flags)
