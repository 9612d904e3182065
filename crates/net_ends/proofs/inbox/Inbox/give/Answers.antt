use Rattle.std.proofs.Common.{take, sym, inr}
use Rattle.std.proofs.lemmas.List.{append-nil}
use Rattle.net_ends.proofs.inbox.Inbox.give.Goals as goal

pub returns-in-Ok-clause-given : goal.returns-in-Ok-clause-given
returns-in-Ok-clause-given c =
    let fed = rw c.deref.ensures.value at c.in-Ok.ensures.fed in
    rw (sym c.self.view_is) (record { piece = take c.self.inside.unfed c.self.inside.piece.items; fed = sym (append-nil (take c.self.inside.unfed c.self.inside.piece.items)); goes = inr fed.0 })

pub returns-in-Err-Fault-clause-given : goal.returns-in-Err-Fault-clause-given
returns-in-Err-Fault-clause-given c =
    let shown = rw c.in-Err-Fault.field-0-is at c.in-Err-Fault.ensures.fed in
    let fed = rw c.deref.ensures.value at shown in
    rw (sym c.self.view_is) (record { piece = take c.self.inside.unfed c.self.inside.piece.items; fed = sym (append-nil (take c.self.inside.unfed c.self.inside.piece.items)); goes = inr fed.0 })
