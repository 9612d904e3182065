use Rattle.std.proofs.Common.{subst, sym, ℕ}
use Rattle.il_model.specs.Row.{HasRoom}
use Rattle.il_model.specs.Settled.{settled_line}
use Rattle.il_model.proofs.Room.{line_room}
use Rattle.il_model.proofs.check.Types.settle.Goals as goal

pub apply-requires : goal.apply-requires
apply-requires c = subst (λ (d : ℕ). HasRoom d c.in_ok-effect.effect) c.depth-depth.ensures (line_room c.args.program.now c.cr-cr.result c.top.result c.depth-depth.result (settled_line c.cr-cr.result c.args.line.now) c.in_ok-effect.effect (sym c.in_ok-effect.ensures))
