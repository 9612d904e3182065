use Rattle.plc_status.specs.declared.printer.Printer.{Printer}
use Rattle.plc_status.proofs.Merging.{one_by_one}
use Rattle.plc_status.proofs.printer.Printer.print.Goals as goal

pub returns : goal.returns
returns g c =
    let after : Printer = record { driver = c.print.new.self; console = c.print-2.new.self; page = c.print-3.new.self; bell = c.args.self.now.bell } in
    one_by_one g.E.CountedWrite c.args.self.now after c.args.err.now c.print.new.err c.print-2.new.err c.print-3.new.err c.print.ensures c.print-2.ensures c.print-3.ensures
