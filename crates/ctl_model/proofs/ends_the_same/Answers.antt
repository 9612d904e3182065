use Rattle.ctl_model.proofs.SameEnd.{ends_the_same}
use Rattle.ctl_model.proofs.ends_the_same.Goals as goal

pub returns : goal.returns
returns c = ends_the_same
