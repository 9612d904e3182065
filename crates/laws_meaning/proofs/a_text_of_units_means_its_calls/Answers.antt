use Rattle.laws_meaning.proofs.Units.{means_its_calls}
use Rattle.laws_meaning.proofs.a_text_of_units_means_its_calls.Goals as goal

pub returns : goal.returns
returns c = means_its_calls
