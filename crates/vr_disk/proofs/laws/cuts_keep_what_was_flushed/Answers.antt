use Rattle.vr_disk.proofs.Cutting.{cuts_keep}
use Rattle.vr_disk.proofs.laws.cuts_keep_what_was_flushed.Goals as goal

pub returns : goal.returns
returns c = cuts_keep c.what_was_written_is_read.ensures
