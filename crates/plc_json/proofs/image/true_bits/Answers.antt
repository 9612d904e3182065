use Rattle.std.proofs.Common.{◌+◌, [], ◌∷◌, ◌++◌, drop, map, get_or, length, true, false, refl, sym, ap, ◌∙◌, arith}
use Rattle.std.specs.Prelude.{option_and_then}
use Rattle.std.proofs.lemmas.List.{length-set}
use Rattle.serde_json.specs.View.{view}
use Rattle.plc_json.specs.Commands.{all_of, number_at, bits_given}
use Rattle.plc_json.proofs.Each.{at_first, tells, tells_none, tells_all}
use Rattle.plc_json.proofs.Once.{once_more, bits_refused, marked, bits_told, none_marked}
use Rattle.plc_json.proofs.image.true_bits.Goals as goal

pub loop-number-init : goal.loop-number-init
loop-number-init c = record { told = []; whole = at_first number_at (map view c.args.numbers.now); once = refl; each = none_marked 512; full = refl }

pub returns-in_err-n : goal.returns-in_err-n
returns-in_err-n c =
    let so = c.loop-number.invariant in
    c.from_residual.ensures ∙ sym (ap (option_and_then bits_given) (sym so.whole ∙ tells_none number_at so.told c.args.numbers.now c.loop-number.number-index c.number-item.result c.loop-number-test.true c.number-item.is (sym c.in_err-n.ensures)))

pub returns-in_err-give : goal.returns-in_err-give
returns-in_err-give c =
    let so = c.loop-number.invariant in
    let n = c.in_ok-n.n in
    c.from_residual-in_err-give.ensures ∙ sym (ap (option_and_then bits_given) (sym so.whole ∙ tells number_at so.told c.args.numbers.now c.loop-number.number-index c.number-item.result c.loop-number-test.true c.number-item.is n (sym c.in_ok-n.ensures))
    ∙ bits_refused n so.told (all_of number_at (drop (c.loop-number.number-index + 1) (map view c.args.numbers.now))) (λ lt. sym (so.each n) ∙ c.in_err-give.ensures.refused (omega (arith, lt, so.full))))

pub loop-number-preserved : goal.loop-number-preserved
loop-number-preserved c =
    let so = c.loop-number.invariant in
    let n = c.in_ok-n.n in
    let is = c.in_ok-give.ensures in
    record {
      told = so.told ++ n ∷ [];
      whole = sym (tells number_at so.told c.args.numbers.now c.loop-number.number-index c.number-item.result c.loop-number-test.true c.number-item.is n (sym c.in_ok-n.ensures)) ∙ so.whole;
      once = once_more 512 n so.told so.once (omega (arith, is.within, so.full)) (sym (so.each n) ∙ is.new);
      each = λ k. ap (λ bits. get_or bits k false) is.marked ∙ marked c.loop-number.bits so.told n is.within so.each k;
      full = ap length is.marked ∙ length-set c.loop-number.bits n true ∙ so.full;
    }

pub returns : goal.returns
returns c =
    let so = c.loop-number.invariant in
    sym (ap (option_and_then bits_given) (sym so.whole ∙ tells_all number_at so.told c.args.numbers.now c.loop-number.number-index (omega arith)) ∙ bits_told c.loop-number.bits so.told so.full so.once so.each)
