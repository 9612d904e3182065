use Rattle.std.proofs.Common.{◌≡◌, ◌≤◌, length}
use Rattle.il_reader.specs.Tokens.{tokens_of}
use Rattle.il_reader.proofs.lexeme.next.Given as goal

abbrev pub invariant-loop-rest : goal.invariant-loop-rest
invariant-loop-rest l = record {
  same : tokens_of l.dialect l.rest ≡ tokens_of l.dialect l.bytes;
  shrinks : length l.rest ≤ length l.bytes;
}

abbrev pub decreases-loop-rest : goal.decreases-loop-rest
decreases-loop-rest l = length l.rest
