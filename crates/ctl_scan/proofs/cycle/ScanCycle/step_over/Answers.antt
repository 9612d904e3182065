use Rattle.std.proofs.Common.{rules}
use Rattle.ctl_model.proofs.OneEnd.{scan_runs_over}
use Rattle.ctl_scan.proofs.cycle.ScanCycle.step_over.Goals as goal

pub returns-clause-runs : goal.returns-clause-runs
returns-clause-runs c =
    scan_runs_over c.args.image.now c.args.breaks.now c.args.budget.instructions c.args.self.now.cycle _ c.know_lawful.ensures.typed c.requires.kept.suits (search rules)
