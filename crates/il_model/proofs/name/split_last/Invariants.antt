use Rattle.std.proofs.Common.{◌≡◌, take}
use Rattle.il_model.proofs.NameParts.{last_dot}
use Rattle.il_model.proofs.name.split_last.Given as goal

abbrev pub invariant-loop-i : goal.invariant-loop-i
invariant-loop-i l = l.found ≡ last_dot (take l.i l.name)
