use Rattle.std.proofs.Common.{◌≡◌, ◌≤◌, drop}
use Rattle.il_loader.specs.Judging.{used_from}
use Rattle.il_loader.proofs.judging.used_by.Given as goal

abbrev pub invariant-loop-n : goal.invariant-loop-n
invariant-loop-n l = record { all : used_from l.n l.used (drop l.n l.words) ≡ used_from 0 0 l.words; few : l.used ≤ l.n }
