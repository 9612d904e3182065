use Rattle.std.proofs.Common.{length}
use Rattle.il_real.proofs.literal.+pattern_behind.Given as goal

abbrev pub decreases-pattern_behind : goal.decreases-pattern_behind
decreases-pattern_behind l = length l.text.now
