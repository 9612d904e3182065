use Rattle.std.proofs.Common.{rules}
use Rattle.ctl_model.proofs.OneEnd.{scan_runs}
use Rattle.ctl_scan.proofs.cycle.ScanCycle.run_to.Goals as goal

pub returns-clause-runs : goal.returns-clause-runs
returns-clause-runs c =
    scan_runs c.args.image.now c.args.breaks.now c.args.budget.instructions c.args.self.now.cycle _ c.know_lawful.ensures.typed c.requires.kept.suits (search rules)
