use Rattle.plc_serve.proofs.Endings.{reported}
use Rattle.plc_serve.proofs.serving.reported.Goals as goal

pub returns-clause-reported : goal.returns-clause-reported
returns-clause-reported g c =
    let counts = c.in_ok-counts.counts in
    reported g.F.CountedWrite counts.crashes counts.scans counts.sessions counts.writes c.args.report.now c.opened.new.report c.written.new.report c.in_ok-opened.ensures c.in_ok-written.ensures
