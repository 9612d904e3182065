use Rattle.std.proofs.Common.{refl}
use Rattle.vr_wire.proofs.Pieces.{prefix_same, on_err}
use Rattle.vr_wire.proofs.feed.taken.Goals as goal

pub returns-in_err-extend_from_slice-clause-err : goal.returns-in_err-extend_from_slice-clause-err
returns-in_err-extend_from_slice-clause-err c = on_err c.from_residual-in_err-extend_from_slice.result (prefix_same c.args.held.now.items c.extend_from_slice.new.self.items c.in_err-extend_from_slice.ensures.items) c.frames_of.ensures.grown

pub returns-in_err-rest-clause-err : goal.returns-in_err-rest-clause-err
returns-in_err-rest-clause-err c = on_err c.from_residual.result (prefix_same c.args.held.now.items c.args.held.now.items refl) c.frames_of.ensures.grown
