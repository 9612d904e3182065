use Rattle.laws_reading.proofs.Expansions.{words_are_tokens}
use Rattle.laws_reading.proofs.the_words_of_an_expansion_are_tokens.Goals as goal

pub returns : goal.returns
returns c = words_are_tokens
