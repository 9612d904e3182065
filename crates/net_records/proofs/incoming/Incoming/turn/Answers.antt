use Rattle.std.proofs.Common.{sym}
use Rattle.net_records.proofs.Turns.{turned}
use Rattle.net_records.proofs.incoming.Incoming.turn.Goals as goal

pub returns-clause-given : goal.returns-clause-given
returns-clause-given c =
    let given = rw c.deref.ensures.value at c.go_on-turn.ensures.given in
    let place = rw c.deref.ensures.value at c.go_on-turn.ensures.place in
    rw (sym c.self.view_is) (turned c.self.inside.place c.go_on-turn.new.place c.self.inside.piece.items c.self.inside.used c.self.inside.count c.go_on-turn.result.used _ given place)
