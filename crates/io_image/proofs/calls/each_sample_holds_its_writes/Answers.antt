use Rattle.io_image.proofs.CallLaws.{each_sample}
use Rattle.io_image.proofs.calls.each_sample_holds_its_writes.Goals as goal

pub returns : goal.returns
returns c = each_sample
