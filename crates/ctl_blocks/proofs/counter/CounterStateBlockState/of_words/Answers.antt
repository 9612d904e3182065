use Rattle.std.proofs.Common.{rules}
use Rattle.ctl_blocks.specs.Counters.{counter_words}
use Rattle.ctl_blocks.proofs.SavedWords.{read_back}
use Rattle.ctl_blocks.proofs.Counters.{counter_in, counter_back}
use Rattle.ctl_blocks.proofs.counter.CounterStateBlockState.of_words.Goals as goal

pub returns-clause-known : goal.returns-clause-known
returns-clause-known c = λ s fits same. read_back counter_in counter_words _ s _ (search rules) same (counter_back s fits)
