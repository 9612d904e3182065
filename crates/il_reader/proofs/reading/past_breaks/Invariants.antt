use Rattle.std.proofs.Common.{◌≡◌, length}
use Rattle.il_reader.specs.Tokens.{tokens_of}
use Rattle.il_reader.specs.Front.{skip_breaks}
use Rattle.il_reader.proofs.reading.past_breaks.Given as goal

abbrev pub invariant-loop-after : goal.invariant-loop-after
invariant-loop-after l = skip_breaks (tokens_of l.dialect l.rest) ≡ skip_breaks (tokens_of l.dialect l.bytes)

abbrev pub decreases-loop-after : goal.decreases-loop-after
decreases-loop-after l = length l.rest
