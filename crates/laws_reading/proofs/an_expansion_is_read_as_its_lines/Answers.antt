use Rattle.laws_reading.proofs.Expansions.{expansions_are_read}
use Rattle.laws_reading.proofs.an_expansion_is_read_as_its_lines.Goals as goal

pub returns : goal.returns
returns c = expansions_are_read
