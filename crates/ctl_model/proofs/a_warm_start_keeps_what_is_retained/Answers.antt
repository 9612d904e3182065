use Rattle.ctl_model.proofs.WarmSuits.{warm_suits, warm_cold}
use Rattle.ctl_model.proofs.WarmKeeps.{warm_keeps}
use Rattle.ctl_model.proofs.a_warm_start_keeps_what_is_retained.Goals as goal

pub returns-clause-keeps : goal.returns-clause-keeps
returns-clause-keeps c = warm_keeps

pub returns-clause-suits : goal.returns-clause-suits
returns-clause-suits c = warm_suits

pub returns-clause-nothing : goal.returns-clause-nothing
returns-clause-nothing c = warm_cold
