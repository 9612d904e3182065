use Rattle.std.proofs.Common.{ap, arith, rules}
use Rattle.std.proofs.KnownBytes.{Keeps-trans}
use Rattle.net_records.proofs.Turns.{turn_given, blank_turn}
use Rattle.net_records.proofs.records.RecordsNonBlockingRead.read.Goals as goal

pub returns-then-given-gt0-clause-bytes : goal.returns-then-given-gt0-clause-bytes
returns-then-given-gt0-clause-bytes g c =
    (turn_given _ _ _ _ _ _ c.pieces.invariant.kept (ap g.T.NonBlockingRead.left c.unwrap-given.ensures.inner) c.unwrap-given.ensures.given, λ none some. absurd (omega arith))

pub returns-in-Err-clause-bytes : goal.returns-in-Err-clause-bytes
returns-in-Err-clause-bytes g c =
    Keeps-trans _ _ _ (blank_turn _ _ _ _ _ c.unwrap-given.new.out c.unwrap-given.result c.pieces.invariant.kept (ap g.T.NonBlockingRead.left c.unwrap-given.ensures.inner) c.unwrap-given.ensures.given (omega arith)) c.fill_behind.ensures.bytes

pub pieces-preserved : goal.pieces-preserved
pieces-preserved g c = record {
  kept = Keeps-trans _ _ _ (blank_turn _ _ _ _ _ c.unwrap-given.new.out c.unwrap-given.result c.pieces.invariant.kept (ap g.T.NonBlockingRead.left c.unwrap-given.ensures.inner) c.unwrap-given.ensures.given (omega arith)) c.fill_behind.ensures.bytes;
  stops = search rules;
}
