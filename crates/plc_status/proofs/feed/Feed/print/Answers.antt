use Rattle.plc_status.specs.declared.feed.Feed.{Feed}
use Rattle.plc_status.proofs.Printing.{known}
use Rattle.plc_status.proofs.feed.Feed.print.Goals as goal

pub returns : goal.returns
returns g c =
    let looked : Feed = record { consumer = c.slots.new.self } in
    known g.E.CountedWrite c.args.self.now looked c.print_known.new.self _ c.args.err.now c.print_known.new.err c.slots.ensures.looked.0 c.slots.ensures.looked.1 c.print_known.ensures.same c.print_known.ensures.taken c.print_known.ensures.lines
