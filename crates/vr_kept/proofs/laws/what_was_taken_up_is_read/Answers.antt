use Rattle.vr_kept.proofs.Framed.{read_back}
use Rattle.vr_kept.proofs.laws.what_was_taken_up_is_read.Goals as goal

pub returns : goal.returns
returns c = read_back c.any_pieces.ensures
