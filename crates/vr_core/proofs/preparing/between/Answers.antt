use Rattle.vr_core.proofs.Between.{cut_is}
use Rattle.vr_core.proofs.preparing.between.Goals as goal

pub returns : goal.returns
returns c = cut_is c.args.from c.args.to c.min-start.result c.min-end.result c.args.entries.now c.min-end.ensures c.min-start.ensures
