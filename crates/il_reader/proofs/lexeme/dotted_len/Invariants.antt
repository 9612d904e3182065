use Rattle.std.proofs.Common.{◌≡◌, ◌+◌, length}
use Rattle.il_reader.specs.Tokens.{dotted_len}
use Rattle.il_reader.proofs.lexeme.dotted_len.Given as goal

abbrev pub invariant-loop-rest : goal.invariant-loop-rest
invariant-loop-rest l = record {
  size : l.count + length l.rest ≡ length l.bytes;
  same : l.count + dotted_len l.rest ≡ dotted_len l.bytes;
}

abbrev pub decreases-loop-rest : goal.decreases-loop-rest
decreases-loop-rest l = length l.rest
