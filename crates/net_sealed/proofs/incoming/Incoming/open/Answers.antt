use Rattle.std.proofs.Common.{sym}
use Rattle.net_sealed.proofs.Ranges.{opened_next}
use Rattle.net_sealed.specs.declared.incoming.Front.TheVariants.{Whole}
use Rattle.net_sealed.specs.Coming.{IsFront}
use Rattle.net_sealed.proofs.incoming.Incoming.open.Goals as goal

pub returns-clause-ok : goal.returns-clause-ok
returns-clause-ok c =
    let asked : IsFront (Whole c.args.length) c.args.self.now.waiting = c.requires in
    let whole = rw (sym c.self.view_is) at asked in
    let sum = rw c.deref.ensures.value at c.sum_in-sum.ensures in
    let opens = rw c.deref-2.ensures.value at c.in_ok-open.ensures.opened in
    rw (sym c.self.view_is) (opened_next c.self.inside.opener c.open.new.self c.self.inside.bytes.items _ c.self.inside.next c.args.length c.sum_in-sum.result whole sum opens)
