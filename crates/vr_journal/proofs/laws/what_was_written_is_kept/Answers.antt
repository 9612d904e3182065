use Rattle.vr_journal.proofs.Written.{keeps_what_was_written}
use Rattle.vr_journal.proofs.laws.what_was_written_is_kept.Goals as goal

pub returns : goal.returns
returns c = keeps_what_was_written
