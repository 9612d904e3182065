use Rattle.std.proofs.Common.{refl, rules}
use Rattle.plc_epochs.proofs.VisitReadings.{word_in}
use Rattle.plc_epochs.proofs.visit.word_of.Goals as goal

pub returns : goal.returns
returns c =
    word_in c.args.bytes.now c.split_at.result.1.now c.split_at-2.result.0.now c.split_at-2.result.1.now _ c.read_u64.result c.word_by.result
    c.split_at.ensures.back c.split_at-2.ensures.front c.split_at-2.ensures.back refl (search rules) c.word_by.ensures
