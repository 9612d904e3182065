use Rattle.std.proofs.Common.{sym}
use Rattle.net_addresses.proofs.Lists.{cut_parts}
use Rattle.net_addresses.proofs.networks.cut.Goals as goal

pub returns-in-Some : goal.returns-in-Some
returns-in-Some c = cut_parts c.args.text.now c.in-Some.comma (sym c.in-Some.ensures.is) c.in-Some.ensures.within
