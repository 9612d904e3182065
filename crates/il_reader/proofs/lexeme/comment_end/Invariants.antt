use Rattle.std.proofs.Common.{◌≡◌, ◌+◌, length}
use Rattle.il_reader.specs.Tokens.{comment_len, add_len}
use Rattle.il_reader.proofs.lexeme.comment_end.Given as goal

abbrev pub invariant-loop-rest : goal.invariant-loop-rest
invariant-loop-rest l = record {
  size : l.count + length l.rest ≡ length l.bytes;
  same : add_len l.count (comment_len l.rest) ≡ comment_len l.bytes;
}

abbrev pub decreases-loop-rest : goal.decreases-loop-rest
decreases-loop-rest l = length l.rest
