use Rattle.ctl_model.proofs.OneEnd.{one_end, one_end_over}
use Rattle.ctl_model.proofs.a_run_has_one_end.Goals as goal

pub returns-clause-runs : goal.returns-clause-runs
returns-clause-runs c = one_end

pub returns-clause-over : goal.returns-clause-over
returns-clause-over c = one_end_over
