use Rattle.std.proofs.Common.{sym, arith}
use Rattle.net_sealed.proofs.Ranges.{given_front}
use Rattle.net_sealed.proofs.incoming.Incoming.give.Goals as goal

pub returns-clause-given : goal.returns-clause-given
returns-clause-given c =
    let piece = rw c.deref.ensures.value at c.copy_from_slice.ensures.after in
    rw (sym c.self.view_is) (given_front c.self.inside.opener c.self.inside.bytes.items c.self.inside.given c.min-count.result c.self.inside.end c.self.inside.next c.args.out.now c.copy_from_slice.new.self (omega arith) (omega arith) piece)
