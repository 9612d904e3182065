use Rattle.std.proofs.Common.{◌≡◌, ◌==◌, ◌<◌, ◌++◌, ◌∷◌, [], true, ap, sym, ◌∙◌, arith, length-append}
use Rattle.std.proofs.lemmas.Bool.Decides.{nat_tests}
use Rattle.io_image.specs.Releases.{number_of}
use Rattle.io_image.specs.declared.release.View.{View}
use Rattle.io_image.proofs.Adding.{adds_moves}
use Rattle.io_image.proofs.Fronts.{shown-snoc, rising-snoc, length-number}
use Rattle.io_image.proofs.list.Front.add.Goals as goal

pub compare_exchange-found-requires : goal.compare_exchange-found-requires
compare_exchange-found-requires g c =
    let h = c.args.last.now.word_is in
    let offer = c.plain-offer.ensures in
    let pen = c.no_pen-pen.ensures in
    let same : c.again-seen.result.log ≡ c.self.inside.seen.log = ap (λ s. s.log) c.again-seen.ensures in
    let book : c.again-seen.result.book ≡ c.args.last.now.word.book = ap (λ s. s.book) c.again-seen.ensures ∙ (c.self.invariant.2 ∙ sym (ap (λ w. w.book) h)) in
    let old : number_of c.again-seen.result.log ≡ c.self.inside.view.number = ap number_of same ∙ sym (ap (λ (v : View). v.number) c.self.invariant.0) in
    let above : number_of c.again-seen.result.log < c.args.release.number = rw (same, c.self.view_is) c.requires in (
      ap (λ w. w.tracked) h,
      book,
      pen.0 ∙ book,
      offer.0,
      rw (ap (λ w. w.key) h, pen.1, offer.1, offer.3) (adds_moves c.again-seen.result.log c.args.release c.self.inside.view.number old above),
    )

pub overflow_add-self : goal.overflow_add-self
overflow_add-self g c =
    let above : number_of c.self.inside.seen.log < c.args.release.number = rw c.self.view_is c.requires in
    omega (arith, length-number 0 c.self.inside.seen.log c.self.invariant.3, c.self.invariant.1)

pub invariant_of-self : goal.invariant_of-self
invariant_of-self g c =
    let log = c.self.inside.seen.log in
    let offer = c.plain-offer.ensures in
    let above : number_of log < c.args.release.number = rw c.self.view_is c.requires in
    let same : c.again-seen.result.log ≡ log = ap (λ s. s.log) c.again-seen.ensures in
    let is_true : (c.compare_exchange-found.result == c.self.inside.view.number) ≡ true = grind (arith, nat_tests) in
    let added : c.compare_exchange-found.new.seen.log ≡ log ++ c.args.release ∷ [] = rw (is_true, offer.1, same) at c.compare_exchange-found.ensures.7 in
    rw added (
      c.view_of-self-inside.ensures ∙ sym (shown-snoc log c.args.release),
      omega (arith, length-append log (c.args.release ∷ []), c.self.invariant.1),
      c.compare_exchange-found.ensures.0 ∙ (ap (λ s. s.book) c.again-seen.ensures ∙ c.self.invariant.2),
      rising-snoc 0 log c.args.release c.self.invariant.3 above,
    )
