use Rattle.std.proofs.Common.{◌≡◌, length}
use Rattle.il_model.specs.Words.{stands_under}
use Rattle.il_model.proofs.name.stands_under.Given as goal

abbrev pub invariant-loop-keys : goal.invariant-loop-keys
invariant-loop-keys l = stands_under l.keys l.letters ≡ stands_under l.front l.name

abbrev pub decreases-loop-keys : goal.decreases-loop-keys
decreases-loop-keys l = length l.keys
