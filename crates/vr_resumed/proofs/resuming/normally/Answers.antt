use Rattle.vr_resumed.proofs.TakenUp.{normally}
use Rattle.vr_resumed.proofs.resuming.normally.Goals as goal

pub returns : goal.returns
returns c = normally c.args.core
