use Rattle.std.proofs.Common.{◌≡◌, ◌+◌, ◌-◌, ◌*◌, ◌/◌, ◌%◌, rules, arith, get_or, subst, sym}
use Rattle.il_model.specs.Literals.{digit_of, digit_list}
use Rattle.il_model.proofs.Decimals.{Leads, upto, at_digit, at_join, turned_back, turned_on, not_whole, ends_at, small_step, is_whole, is_broken}
use Rattle.il_model.proofs.duration.whole.Goals as goal

pub returns-then-sum-ne0-clause-value : goal.returns-then-sum-ne0-clause-value
returns-then-sum-ne0-clause-value c =
    let k = c.loop-k.k - 1 in
    let b = get_or c.args.decimals.now k 0 in
    let d : c.from.result ≡ digit_of b = search rules in
    let u : c.from-then-decimals-k-ne95.result ≡ c.args.unit = search rules in
    let sum = c.from.result * c.from-then-decimals-k-ne95.result + c.loop-k.ms in
    let e : digit_of b * c.args.unit + c.loop-k.ms ≡ 10 * (sum / 10) + sum % 10 = rw (← d, ← u) (omega arith) in
    let up : c.loop-k.k ≡ k + 1 = omega arith in
    let split = at_digit c.args.decimals.now k (omega arith) c.if-decimals-k-ne95.true in
    sym (is_broken c.args.unit (digit_list c.args.decimals.now)
    (λ m whole. not_whole c.args.unit c.loop-k.ms m (digit_of b) (sum % 10) (sum / 10) (upto k c.args.decimals.now) e (omega arith) (omega arith) (subst (λ ds. Leads c.args.unit c.loop-k.ms ds m) split (rw up at (c.loop-k.invariant.follows m whole)))))

pub loop-k-preserved-then-decimals-k-ne95 : goal.loop-k-preserved-then-decimals-k-ne95
loop-k-preserved-then-decimals-k-ne95 c =
    let k = c.loop-k.k - 1 in
    let b = get_or c.args.decimals.now k 0 in
    let d : c.from.result ≡ digit_of b = search rules in
    let u : c.from-then-decimals-k-ne95.result ≡ c.args.unit = search rules in
    let sum = c.from.result * c.from-then-decimals-k-ne95.result + c.loop-k.ms in
    let e : digit_of b * c.args.unit + c.loop-k.ms ≡ 10 * (sum / 10) = rw (← d, ← u) (omega arith) in
    let up : c.loop-k.k ≡ k + 1 = omega arith in
    let split = at_digit c.args.decimals.now k (omega arith) c.if-decimals-k-ne95.true in
    record {
      within = omega arith;
      small = rw u (small_step c.args.unit c.loop-k.ms c.from.result (omega arith) c.loop-k.invariant.small);
      leads = λ m h. c.loop-k.invariant.leads m (rw up (subst (λ ds. Leads c.args.unit c.loop-k.ms ds m) (sym split) (turned_on c.args.unit c.loop-k.ms m (digit_of b) (sum / 10) (upto k c.args.decimals.now) e h)));
      follows = λ m whole. turned_back c.args.unit c.loop-k.ms m (digit_of b) (sum / 10) (upto k c.args.decimals.now) e (subst (λ ds. Leads c.args.unit c.loop-k.ms ds m) split (rw up at (c.loop-k.invariant.follows m whole)));
    }

pub loop-k-preserved : goal.loop-k-preserved
loop-k-preserved c =
    let k = c.loop-k.k - 1 in
    let up : c.loop-k.k ≡ k + 1 = omega arith in
    let same = at_join c.args.decimals.now k (omega arith) c.if-decimals-k-ne95.false in
    record {
      within = omega arith;
      small = c.loop-k.invariant.small;
      leads = λ m h. c.loop-k.invariant.leads m (rw up (subst (λ ds. Leads c.args.unit c.loop-k.ms ds m) (sym same) h));
      follows = λ m whole. subst (λ ds. Leads c.args.unit c.loop-k.ms ds m) same (rw up at (c.loop-k.invariant.follows m whole));
    }

pub returns-clause-value : goal.returns-clause-value
returns-clause-value c = sym (is_whole c.args.unit c.loop-k.ms (digit_list c.args.decimals.now) (c.loop-k.invariant.leads c.loop-k.ms (ends_at c.args.unit c.loop-k.ms c.loop-k.k c.args.decimals.now (omega arith))))
