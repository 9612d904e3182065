use Rattle.std.proofs.Common.{sym, ◌∙◌, rules, arith}
use Rattle.il_model.specs.Literals.{held_integer, part_text, parts_by}
use Rattle.il_model.proofs.Decimals.{no_part, too_high, last_part, not_last, goes_on, ran_out}
use Rattle.il_model.proofs.duration.duration.Goals as goal

pub returns-in_err-part-clause-value : goal.returns-in_err-part-clause-value
returns-in_err-part-clause-value c = c.from_residual.ensures ∙ sym (no_part c.loop.total c.loop.counter c.loop.limit c.loop.rest.now (parts_by held_integer 5 5 c.args.bytes.now) c.loop-test.true (sym c.in_err-part.ensures.value) c.loop.invariant.same)

pub returns-then-part-limit-clause-value : goal.returns-then-part-limit-clause-value
returns-then-part-limit-clause-value c = sym (too_high c.loop.total c.loop.counter c.loop.limit c.loop.rest.now (part_text c.in_ok-part.part) (parts_by held_integer 5 5 c.args.bytes.now) c.loop-test.true (sym c.in_ok-part.ensures.value) c.if-part-limit.true c.loop.invariant.same)

pub returns-then-is_empty-clause-value : goal.returns-then-is_empty-clause-value
returns-then-is_empty-clause-value c = sym (last_part c.loop.total c.loop.counter c.loop.limit c.loop.rest.now (part_text c.in_ok-part.part) (parts_by held_integer 5 5 c.args.bytes.now) c.loop-test.true (sym c.in_ok-part.ensures.value) (omega arith) (search rules) c.loop.invariant.same)

pub returns-then-part-clause-value : goal.returns-then-part-clause-value
returns-then-part-clause-value c = sym (not_last c.loop.total c.loop.counter c.loop.limit c.loop.rest.now (part_text c.in_ok-part.part) (parts_by held_integer 5 5 c.args.bytes.now) c.loop-test.true (sym c.in_ok-part.ensures.value) (omega arith) (search rules) c.if-part.true c.loop.invariant.same)

pub loop-preserved : goal.loop-preserved
loop-preserved c =
    record {
      small = omega (arith, c.in_ok-part.ensures.small, c.loop.invariant.small);
      same = rw c.past_join-rest.ensures (goes_on c.loop.total c.loop.counter c.loop.limit c.loop.rest.now (part_text c.in_ok-part.part) (parts_by held_integer 5 5 c.args.bytes.now) c.loop-test.true (sym c.in_ok-part.ensures.value) (omega arith) (search rules) (search rules) c.loop.invariant.same);
    }

pub returns-clause-value : goal.returns-clause-value
returns-clause-value c = sym (ran_out c.loop.total c.loop.counter c.loop.limit c.loop.rest.now (parts_by held_integer 5 5 c.args.bytes.now) (omega arith) c.loop.invariant.same)
