use Rattle.vr_wire.proofs.Prefixes.{only_framed}
use Rattle.vr_wire.proofs.feed.only_framed_are_found.Goals as goal

pub returns : goal.returns
returns c = only_framed
