use Rattle.laws_epoch_ends.proofs.Only.{only_words}
use Rattle.laws_epoch_ends.proofs.only_words_give_an_epoch_up.Goals as goal

pub returns : goal.returns
returns c = only_words
