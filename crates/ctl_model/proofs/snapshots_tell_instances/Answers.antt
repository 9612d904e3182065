use Rattle.ctl_model.proofs.SameBlocks.{instances_same}
use Rattle.ctl_model.proofs.snapshots_tell_instances.Goals as goal

pub returns : goal.returns
returns c = instances_same c.words_tell_a_block.ensures
