use Rattle.vr_wire.proofs.Ends.{cells_short, cells_long}
use Rattle.vr_wire.proofs.cells.cells_end.Goals as goal

pub returns-then-bytes-lt192 : goal.returns-then-bytes-lt192
returns-then-bytes-lt192 c = cells_short c.args.bytes.now c.if-bytes-lt192.true

pub returns : goal.returns
returns c = rw c.split_at.ensures.back (cells_long c.args.bytes.now c.if-bytes-lt192.false)
