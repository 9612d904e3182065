use Rattle.std.proofs.Common.{◌≡◌, ◌+◌, ℕ, ℤ, pos, [], ◌∷◌, ◌++◌, drop, map, get_or, length, true, false, Some, set, refl, sym, ap, ◌∙◌, arith, rules, SFits, w16, to_z, of_z}
use Rattle.std.specs.Prelude.{option_and_then}
use Rattle.std.proofs.lemmas.List.{length-set}
use Rattle.std.proofs.lemmas.Int.{to_z-of_z}
use Rattle.serde_json.specs.View.{view}
use Rattle.plc_json.specs.Commands.{all_of, is_in, are_once, numbers_of, numbered_word, words_given}
use Rattle.plc_json.proofs.Each.{at_first, tells, tells_none, tells_all}
use Rattle.plc_json.proofs.Once.{once_more, words_refused, numbers_more, marked, worded, words_told, none_marked, none_worded}
use Rattle.plc_json.proofs.image.given_words.Goals as goal

pub loop-pair-init : goal.loop-pair-init
loop-pair-init c = record { told = []; whole = at_first numbered_word (map view c.args.pairs.now); once = refl; marks = none_marked 64; values = none_worded 64; all_given = refl; all_words = refl }

pub returns-in_err-number : goal.returns-in_err-number
returns-in_err-number c =
    let so = c.loop-pair.invariant in
    c.from_residual.ensures ∙ sym (ap (option_and_then words_given) (sym so.whole ∙ tells_none numbered_word so.told c.args.pairs.now c.loop-pair.pair-index c.pair-item.result c.loop-pair-test.true c.pair-item.is (sym c.in_err-number.ensures)))

pub returns-in_err-give : goal.returns-in_err-give
returns-in_err-give c =
    let so = c.loop-pair.invariant in
    let p : ℕ × ℤ = (c.in_ok-number.number, c.in_ok-number.value) in
    let gives : numbered_word (view c.pair-item.result) ≡ Some p = search rules in
    c.from_residual-in_err-give.ensures ∙ sym (ap (option_and_then words_given) (sym so.whole ∙ tells numbered_word so.told c.args.pairs.now c.loop-pair.pair-index c.pair-item.result c.loop-pair-test.true c.pair-item.is p gives)
    ∙ words_refused p so.told (all_of numbered_word (drop (c.loop-pair.pair-index + 1) (map view c.args.pairs.now))) (λ lt. sym (so.marks p.0) ∙ c.in_err-give.ensures.refused (omega (arith, lt, so.all_given))))

pub loop-pair-preserved : goal.loop-pair-preserved
loop-pair-preserved c =
    let so = c.loop-pair.invariant in
    let p : ℕ × ℤ = (c.in_ok-number.number, c.in_ok-number.value) in
    let gives : numbered_word (view c.pair-item.result) ≡ Some p = search rules in
    let fits : SFits w16 c.in_ok-number.value = search rules in
    let back = to_z-of_z w16 c.in_ok-number.value fits in
    let is = c.in_ok-give.ensures in
    let new : is_in p.0 (numbers_of so.told) ≡ false = sym (so.marks p.0) ∙ is.new in
    record {
      told = so.told ++ p ∷ [];
      whole = sym (tells numbered_word so.told c.args.pairs.now c.loop-pair.pair-index c.pair-item.result c.loop-pair-test.true c.pair-item.is p gives) ∙ so.whole;
      once = ap (are_once 64) (numbers_more p so.told) ∙ once_more 64 p.0 (numbers_of so.told) so.once (omega (arith, is.within, so.all_given)) new;
      marks = λ k. ap (λ given. get_or given k false) is.marked ∙ marked c.loop-pair.given (numbers_of so.told) p.0 is.within so.marks k ∙ ap (is_in k) (sym (numbers_more p so.told));
      values = λ k. ap (λ (z : ℤ). get_or (set c.loop-pair.words p.0 z) k (pos 0)) back ∙ worded c.loop-pair.words so.told p (omega (arith, is.within, so.all_given, so.all_words)) new so.values k;
      all_given = ap length is.marked ∙ length-set c.loop-pair.given p.0 true ∙ so.all_given;
      all_words = length-set c.loop-pair.words p.0 (to_z w16 (of_z w16 p.1)) ∙ so.all_words;
    }

pub returns : goal.returns
returns c =
    let so = c.loop-pair.invariant in
    sym (ap (option_and_then words_given) (sym so.whole ∙ tells_all numbered_word so.told c.args.pairs.now c.loop-pair.pair-index (omega arith)) ∙ words_told c.loop-pair.words so.told so.all_words so.once so.values)
