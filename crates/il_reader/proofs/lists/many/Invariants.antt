use Rattle.std.proofs.Common.{length, map}
use Rattle.il_reader.specs.Tokens.{tokens_of}
use Rattle.il_reader.specs.Reading.{many}
use Rattle.il_reader.proofs.Loop.{Left}
use Rattle.il_reader.proofs.lists.many.Given as goal

abbrev pub invariant-loop-dialect : goal.invariant-loop-dialect
invariant-loop-dialect g l = Left (g.L.Listed.ends l.dialect) (g.L.Listed.item_at l.dialect) (map g.L.Listed.said l.found.items) (tokens_of l.dialect l.rest) (many (g.L.Listed.ends l.dialect) (g.L.Listed.item_at l.dialect) (tokens_of l.dialect l.bytes))

abbrev pub decreases-loop-dialect : goal.decreases-loop-dialect
decreases-loop-dialect g l = length (tokens_of l.dialect l.rest)
