use Rattle.std.proofs.Common.{◌≡◌, length}
use Rattle.il_loader.specs.Judging.{risen}
use Rattle.il_loader.proofs.judging.check_labels.Given as goal

abbrev pub invariant-loop-rest : goal.invariant-loop-rest
invariant-loop-rest l = risen l.end l.least l.words l.rest ≡ risen l.end 0 l.words l.labels

abbrev pub decreases-loop-rest : goal.decreases-loop-rest
decreases-loop-rest l = length l.rest
