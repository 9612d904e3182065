use Rattle.std.proofs.Common.{sym}
use Rattle.plc_console.proofs.Kept.{long_asked}
use Rattle.plc_console.proofs.line.Line.wish.Goals as goal

pub returns-then-self : goal.returns-then-self
returns-then-self c =
    long_asked c.args.self.now c.self.inside.is_too_long c.self.inside.bytes.items (sym c.self.view_is) c.args.image.now c.if-self.true
