use Rattle.vr_wire.proofs.Pieces.{prefix_same, prefix_with}
use Rattle.vr_wire.proofs.feed.fill.Goals as goal

pub returns-clause-grown : goal.returns-clause-grown
returns-clause-grown c = prefix_with c.args.held.now.items _ c.extend_from_slice.new.self.items c.in_ok-extend_from_slice.ensures.items

pub returns-in_err-extend_from_slice-clause-grown : goal.returns-in_err-extend_from_slice-clause-grown
returns-in_err-extend_from_slice-clause-grown c = prefix_same c.args.held.now.items c.extend_from_slice.new.self.items c.in_err-extend_from_slice.ensures.items
