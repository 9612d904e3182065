use Rattle.std.proofs.Common.{length}
use Rattle.ctl_blocks.proofs.words.+bits_number.Given as goal

abbrev pub decreases-bits_number : goal.decreases-bits_number
decreases-bits_number l = length l.truths.now
