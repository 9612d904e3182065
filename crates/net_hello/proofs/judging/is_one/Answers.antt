use Rattle.net_hello.proofs.Parties.{alike_tells}
use Rattle.net_hello.proofs.judging.is_one.Goals as goal

pub returns : goal.returns
returns c = alike_tells c.args.party c.args.other c.are_alike.result c.are_alike.ensures
