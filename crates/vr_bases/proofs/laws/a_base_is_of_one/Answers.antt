use Rattle.vr_bases.proofs.Behind.{one_base}
use Rattle.vr_bases.proofs.laws.a_base_is_of_one.Goals as goal

pub returns : goal.returns
returns c = one_base c.what_was_taken_up_is_read.ensures
