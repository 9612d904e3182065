use Rattle.std.proofs.Common.{◌<◌, false, replicate, get_or, arith}
use Rattle.ctl_debugger.proofs.Flags.{each_below, with_breaks, all_set, breaks_set}
use Rattle.ctl_debugger.proofs.breaks.break_flags.Goals as goal

pub index_mut-requires : goal.index_mut-requires
index_mut-requires c =
    let below : get_or c.args.positions.now c.loop-position.position-index 0 < c.args.len = each_below c.args.len c.args.positions.now c.loop-position.position-index 0 c.requires c.loop-position-test.true in
    omega (arith, below, c.loop-position.invariant.each, c.loop-position.flags.ok)

pub returns-clause-listed : goal.returns-clause-listed
returns-clause-listed c =
    breaks_set c.args.len c.loop-position.flags.items c.args.positions.now
    (all_set c.loop-position.flags.items (with_breaks (replicate c.args.len false) c.args.positions.now) c.args.positions.now c.loop-position.position-index c.loop-position-test.false c.loop-position.invariant.set) c.requires
