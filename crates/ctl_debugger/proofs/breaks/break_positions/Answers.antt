use Rattle.ctl_debugger.proofs.Flags.{listed_all}
use Rattle.ctl_debugger.proofs.breaks.break_positions.Goals as goal

pub returns : goal.returns
returns c = listed_all c.loop-position.positions.items c.args.flags.now c.loop-position.position c.loop-position-test.false c.loop-position.invariant
