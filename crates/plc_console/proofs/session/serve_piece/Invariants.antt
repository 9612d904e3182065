use Rattle.std.proofs.Common.{◌≤◌, take}
use Rattle.plc_console.specs.Sessions.{scene}
use Rattle.plc_console.proofs.Sessions.{PieceServed}
use Rattle.plc_console.proofs.session.serve_piece.Given as goal

-- each line that is whole with the bytes so far had its turn
abbrev pub invariant-loop-byte : goal.invariant-loop-byte
invariant-loop-byte g l = record {
  served : PieceServed (take l.byte-index l.piece) l.initial.intake l.intake (scene (g.D.Submits.answered l.initial.desk) (g.W.CountedWrite.held l.initial.writer) l.initial.image) (scene (g.D.Submits.answered l.desk) (g.W.CountedWrite.held l.writer) l.image);
  counts : g.W.CountedWrite.faults l.initial.writer ≤ g.W.CountedWrite.faults l.writer;
}
