use Rattle.std.proofs.Common.{rules}
use Rattle.ctl_blocks.specs.Timers.{timer_words}
use Rattle.ctl_blocks.proofs.SavedWords.{read_back}
use Rattle.ctl_blocks.proofs.Timers.{timer_in, timer_back}
use Rattle.ctl_blocks.proofs.timer.TimerStateBlockState.of_words.Goals as goal

pub returns-clause-known : goal.returns-clause-known
returns-clause-known c = λ s fits same. read_back timer_in timer_words _ s _ (search rules) same (timer_back s fits)
