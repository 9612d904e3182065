use Rattle.std.proofs.Common.{◌≡◌, ◌-◌, ℕ, List, take, drop, length, le_refl, sym}
use Rattle.std.proofs.lemmas.Slice.{between_to_end}
use Rattle.net_ends.proofs.Writing.{more_written}
use Rattle.net_ends.proofs.outbox.Outbox.flush.Goals as goal

pub loop-self-preserved : goal.loop-self-preserved
loop-self-preserved g c =
    let bytes : List ℕ = c.self.inside.bytes.items in
    let done : ℕ = c.self.inside.done in
    let rest : take (length bytes - done) (drop done bytes) ≡ drop done bytes = between_to_end bytes done (length bytes) (le_refl (length bytes)) in
    let took = rw c.deref.ensures.value at c.in-Ok.ensures.bytes in
    record {
      bytes = more_written _ _ _ _ bytes done c.in-Ok.count (rw (sym c.self.view_is) at c.loop-self.invariant.bytes) (rw rest at took);
      going = cc (c.in-Ok.ensures.stops, c.loop-self.invariant.going);
    }
