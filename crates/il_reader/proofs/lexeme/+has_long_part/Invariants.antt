use Rattle.std.proofs.Common.{length}
use Rattle.il_reader.proofs.lexeme.+has_long_part.Given as goal

abbrev pub decreases-has_long_part : goal.decreases-has_long_part
decreases-has_long_part l = length l.name.now
