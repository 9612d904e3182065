use Rattle.laws_reading.proofs.Expansions.{sorts_tell}
use Rattle.laws_reading.proofs.the_sorts_of_words_tell_jumps_and_returns.Goals as goal

pub returns : goal.returns
returns c = sorts_tell
