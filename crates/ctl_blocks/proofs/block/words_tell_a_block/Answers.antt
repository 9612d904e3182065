use Rattle.ctl_blocks.proofs.Known.{block_same}
use Rattle.ctl_blocks.proofs.block.words_tell_a_block.Goals as goal

pub returns : goal.returns
returns c = block_same
