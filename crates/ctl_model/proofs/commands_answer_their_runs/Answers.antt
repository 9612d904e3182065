use Rattle.ctl_model.proofs.OneEnd.{answers_run}
use Rattle.ctl_model.proofs.commands_answer_their_runs.Goals as goal

pub returns : goal.returns
returns c = answers_run
