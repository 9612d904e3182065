use Rattle.std.proofs.Common.{length}
use Rattle.vr_wire.proofs.Pieces.{IsSoFar}
use Rattle.vr_wire.proofs.feed.frames_of.Given as goal

abbrev pub invariant-frames : goal.invariant-frames
invariant-frames l = IsSoFar l.bytes l.rest l.fn.out.items l.out.items

abbrev pub decreases-frames : goal.decreases-frames
decreases-frames l = length l.rest
