use Rattle.std.proofs.Common.{◌≡◌, ℕ, ◌<◌, ◌+◌, ◌*◌, min, true, rules, arith, get_or}
use Rattle.std.specs.Prelude.{option_map}
use Rattle.il_model.specs.Literals.{digit_of, integer_of}
use Rattle.il_model.proofs.Literals.{digit_at, underscore_at}
use Rattle.il_model.proofs.literal.integer.Goals as goal
use Rattle.il_model.proofs.literal.integer.Goals.{then-b-eq95+else-not-behind, else-b-eq95+else-d-base}

-- a number that was held at the most it may be, and a digit more
held_step : (p d : ℕ) → min (min p 18446744073709551615 + d) 18446744073709551615 ≡ min (p + d) 18446744073709551615
held_step p d = omega arith

pub loop-b-preserved : goal.loop-b-preserved
loop-b-preserved c =
    let total = option_map (λ n. min n 18446744073709551615) (integer_of c.args.base c.args.bytes.now) in
    elim c.if-b-eq95.branch [
      | then-b-eq95+else-not-behind w ↦
          let b : c.loop-b.behind ≡ true = search rules in
          record {
            held = rw w.value-is c.loop-b.invariant.held;
            same = rw (w.value-is, w.behind-is) (underscore_at c.args.base c.loop-b.value (λ n. min n 18446744073709551615) c.args.bytes.now c.loop-b.b-index total c.loop-b-test.true w.if-b-eq95.true (rw b at c.loop-b.invariant.same));
          }
      | else-b-eq95+else-d-base w ↦
          let d = get_or c.args.bytes.now c.loop-b.b-index 0 in
          let small : digit_of d < c.args.base = rw (← w.digit-d.ensures.value) w.if-d-base.false in
          let m : c.if-b-eq95.value ≡ min (c.loop-b.value * c.args.base + digit_of d) 18446744073709551615 = cc (w.value-is, w.saturating_add-value.ensures, w.saturating_mul.ensures, w.from.ensures, w.from-else-b-eq95.ensures, w.digit-d.ensures.value, held_step (c.loop-b.value * c.args.base) (digit_of d)) in
          record {
            held = omega (arith, m);
            same = rw w.behind-is (digit_at 18446744073709551615 c.args.base c.loop-b.value c.if-b-eq95.value c.loop-b.behind c.args.bytes.now c.loop-b.b-index total (omega arith) c.loop-b-test.true w.if-b-eq95.false small m c.loop-b.invariant.same);
          }
    ]
