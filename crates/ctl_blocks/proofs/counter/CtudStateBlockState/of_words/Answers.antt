use Rattle.std.proofs.Common.{rules}
use Rattle.ctl_blocks.specs.Counters.{ctud_words}
use Rattle.ctl_blocks.proofs.SavedWords.{read_back}
use Rattle.ctl_blocks.proofs.Counters.{ctud_in, ctud_back}
use Rattle.ctl_blocks.proofs.counter.CtudStateBlockState.of_words.Goals as goal

pub returns-clause-known : goal.returns-clause-known
returns-clause-known c = λ s fits same. read_back ctud_in ctud_words _ s _ (search rules) same (ctud_back s fits)
