use Rattle.std.proofs.Common.{sym}
use Rattle.net_records.proofs.Going.{range_rest}
use Rattle.net_records.proofs.outgoing.Outgoing.write.Goals as goal

pub returns-clause-rest : goal.returns-clause-rest
returns-clause-rest g c = rw (sym c.self.view_is) (range_rest c.self.inside.bytes.items c.self.inside.done c.in_ok-count.count c.self.inside.count)
