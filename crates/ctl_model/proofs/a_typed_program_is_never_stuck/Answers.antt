use Rattle.ctl_model.proofs.NeverStuck.{never_stuck}
use Rattle.ctl_model.proofs.a_typed_program_is_never_stuck.Goals as goal

pub returns : goal.returns
returns c = never_stuck
