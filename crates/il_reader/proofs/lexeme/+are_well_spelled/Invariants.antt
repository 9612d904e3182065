use Rattle.std.proofs.Common.{length}
use Rattle.il_reader.proofs.lexeme.+are_well_spelled.Given as goal

abbrev pub decreases-are_well_spelled : goal.decreases-are_well_spelled
decreases-are_well_spelled l = length l.name.now
