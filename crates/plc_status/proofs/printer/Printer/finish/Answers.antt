use Rattle.plc_status.specs.declared.printer.Printer.{Printer}
use Rattle.plc_status.proofs.Merging.{all_out}
use Rattle.plc_status.proofs.printer.Printer.finish.Goals as goal

pub returns : goal.returns
returns g c =
    let after : Printer = record { driver = c.finish.new.self; console = c.print.new.self; page = c.print-2.new.self; bell = c.args.self.now.bell } in
    all_out g.E.CountedWrite c.args.journal.now c.finish.new.journal c.args.self.now after c.args.err.now c.finish.new.err c.print.new.err c.print-2.new.err c.print_loss.new.err c.finish.ensures.printed c.finish.ensures.lost c.print.ensures c.print-2.ensures c.print_loss.ensures
