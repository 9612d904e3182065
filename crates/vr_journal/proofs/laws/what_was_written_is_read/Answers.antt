use Rattle.vr_journal.proofs.Files.{read_back}
use Rattle.vr_journal.proofs.laws.what_was_written_is_read.Goals as goal

pub returns : goal.returns
returns c = read_back
