use Rattle.plc_status.proofs.Merging.{both}
use Rattle.plc_status.proofs.printer.Printer.attend.Goals as goal

pub loop-preserved : goal.loop-preserved
loop-preserved g c = record {
  can_next = tt;
  finite = tt;
  prints = both g.E.CountedWrite c.args.self.now c.loop.self c.print.new.self c.args.err.now c.loop.err c.print.new.err c.loop.invariant.prints c.print.ensures;
}

pub returns-then-is_over : goal.returns-then-is_over
returns-then-is_over g c = both g.E.CountedWrite c.args.self.now c.loop.self c.print.new.self c.args.err.now c.loop.err c.print.new.err c.loop.invariant.prints c.print.ensures
