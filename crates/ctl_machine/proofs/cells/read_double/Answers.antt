use Rattle.std.proofs.Common.{rules}
use Rattle.ctl_machine.proofs.DoubleWords.{two_read}
use Rattle.ctl_machine.proofs.cells.read_double.Goals as goal

pub returns : goal.returns
returns c = two_read c.args.ty c.args.cells.now.words c.args.n c.in_ok-high.high c.in_ok-low.low c.value.result (search rules) (search rules) c.in_ok-high.ensures c.in_ok-low.ensures c.value.ensures
