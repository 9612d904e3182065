use Rattle.vr_wire.proofs.Pieces.{prefix_more}
use Rattle.vr_wire.proofs.feed.fill_frame.Goals as goal

pub returns-clause-grown : goal.returns-clause-grown
returns-clause-grown c = prefix_more c.args.held.now.items c.fill.new.held.items c.fill-2.new.held.items c.fill.ensures.grown c.fill-2.ensures.grown
