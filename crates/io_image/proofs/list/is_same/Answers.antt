use Rattle.io_image.proofs.Sameness.{same_view}
use Rattle.io_image.proofs.list.is_same.Goals as goal

pub returns : goal.returns
returns c = same_view c.args.one.now c.args.other.now c.eq.result c.eq.ensures
