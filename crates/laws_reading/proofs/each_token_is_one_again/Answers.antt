use Rattle.laws_reading.proofs.Again.{are_again}
use Rattle.laws_reading.proofs.each_token_is_one_again.Goals as goal

pub returns : goal.returns
returns c = are_again
