use Rattle.std.proofs.Common.{◌≡◌, ◌-◌, ◌≤◌, ℕ, List, take, drop, length, arith, length-drop, le_refl}
use Rattle.std.proofs.lemmas.Slice.{between_to_end}
use Rattle.std.proofs.Math.Seq.{take-add}
use Rattle.std.proofs.KnownBytes.{Appends-trans}
use Rattle.io_model.proofs.counted.write_all.Goals as goal

pub loop-done-preserved : goal.loop-done-preserved
loop-done-preserved g c =
    let bytes : List ℕ = c.args.bytes.now in
    let done : ℕ = c.loop-done.done in
    let rest : take (length bytes - done) (drop done bytes) ≡ drop done bytes = between_to_end bytes done (length bytes) (le_refl (length bytes)) in
    let bound : c.in_ok-done.field-0 ≤ length (drop done bytes) = rw rest at c.in_ok-done.ensures.bound in
    record {
      within = omega (arith, length-drop done bytes, bound);
      wrote = rw take-add (Appends-trans _ _ _ _ _ c.loop-done.invariant.wrote (rw rest at c.in_ok-done.ensures.bytes));
      counts = omega (arith, c.loop-done.invariant.counts, c.in_ok-done.ensures.counts);
    }
