use Rattle.vr_disk.proofs.Performing.{behind}
use Rattle.vr_disk.proofs.laws.a_writing_goes_behind.Goals as goal

pub returns : goal.returns
returns c = behind
