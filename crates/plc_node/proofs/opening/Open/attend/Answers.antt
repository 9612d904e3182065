use Rattle.plc_node.proofs.Served.{made, served}
use Rattle.plc_node.proofs.opening.Open.attend.Goals as goal

pub returns-in_err-counts-clause-told : goal.returns-in_err-counts-clause-told
returns-in_err-counts-clause-told g c = served g.E.CountedWrite c.end-journal.result.journal c.args.printer c.run-driven.new.printer c.finish.new.self c.args.err.now c.tell_port.new.err c.run-driven.new.err c.finish.new.err c.tell_port.ensures c.run-driven.ensures.printed c.finish.ensures

pub returns-clause-told : goal.returns-clause-told
returns-clause-told g c = served g.E.CountedWrite c.end-journal.result.journal c.args.printer c.run-driven.new.printer c.finish.new.self c.args.err.now c.tell_port.new.err c.run-driven.new.err c.finish.new.err c.tell_port.ensures c.run-driven.ensures.printed c.finish.ensures

pub returns-clause-scans : goal.returns-clause-scans
returns-clause-scans g c = made c.args.driver.drive.scans c.run-driven.result.ran.done c.end-journal.result.counts c.in_ok-counts.counts c.in_ok-counts.was c.run-driven.ensures.scans c.end-journal.ensures.scans
