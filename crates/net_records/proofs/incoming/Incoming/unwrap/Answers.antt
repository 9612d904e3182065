use Rattle.std.proofs.Common.{◌-◌, List, ℕ, length, subst, sym, arith}
use Rattle.net_records.specs.Ends.{Unwraps}
use Rattle.net_records.proofs.Turns.{unwraps_more, mid_taken, mid_fits}
use Rattle.net_records.proofs.incoming.Incoming.unwrap.Goals as goal

pub turns-preserved : goal.turns-preserved
turns-preserved c =
    let g = c.turns.given in
    let r = c.turn-given.result in
    let xs = c.turns.out in
    let ys = c.turn-given.new.out in
    record {
      fits = mid_fits g r (length xs - g) xs ys (omega arith) c.turn-given.ensures.fits;
      given = subst (λ (t : List ℕ). Unwraps c.args.self.now c.turn-given.new.self t) (sym (mid_taken g r (length xs - g) xs ys (omega arith) c.turn-given.ensures.fits)) (unwraps_more _ _ _ _ _ c.turns.invariant.given c.turn-given.ensures.given);
    }
