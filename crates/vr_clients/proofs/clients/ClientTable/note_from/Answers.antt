use Rattle.std.proofs.Common.{◌≡◌, get_or, subst, sym, rules}
use Rattle.vr_clients.specs.Clients.{KnowsMore}
use Rattle.vr_clients.proofs.Noting.{knows_next}
use Rattle.vr_clients.proofs.clients.ClientTable.note_from.Goals as goal

pub loop-place-preserved : goal.loop-place-preserved
loop-place-preserved c =
    let m = c.index-log-place.result in
    let is : get_or c.args.log.now c.loop-place.place m ≡ m = search rules in
    subst (KnowsMore c.args.self.now _) (sym c.note.ensures) (knows_next c.args.self.now c.loop-place.self c.args.log.now c.args.from c.loop-place.place m c.loop-place.auto.place c.loop-place-test.true is c.loop-place.invariant)
