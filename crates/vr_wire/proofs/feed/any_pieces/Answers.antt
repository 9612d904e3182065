use Rattle.vr_wire.specs.Streams.{frames}
use Rattle.io_model.proofs.Streams.{one_stream}
use Rattle.vr_wire.proofs.Pieces.{readable}
use Rattle.vr_wire.proofs.feed.any_pieces.Goals as goal

pub returns : goal.returns
returns c = one_stream frames readable
