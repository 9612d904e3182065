-- The exchange that adds a release keeps the rule.
use Rattle.std.proofs.Common.{◌≡◌, ℕ, ◌<◌, ◌==◌, Bool, true, false, List, [], ◌∷◌, ◌++◌, length, refl, ap, sym, ◌∙◌, subst, arith, inl, None}
use Rattle.std.proofs.lemmas.List.{append-nil}
use Rattle.std.proofs.lemmas.Bool.Decides.{nat_tests}
use mathlib.Core.List.{IsPrefix}
use prog.Atomic.{either}
use Rattle.logbook.specs.Pages.{Cell, cell, keeps, no_nib, step, Moves, Goes}
use Rattle.io_image.specs.declared.release.Release.{Release}
use Rattle.io_image.specs.Releases.{IsRising, number_of, IsKept, Adds}
use Rattle.io_image.proofs.Fronts.{number_from-snoc, rising-snoc, rising_whole}

abbrev pub nothing_shown : List Release → List Release
nothing_shown log = []

abbrev pub moved : List Release → List Release → ℕ → Type 0
moved xs ys n = Unit {0}

pub adds_goes : (log v : List Release) (e : Release) (old : ℕ) → number_of v ≡ old → number_of v < e.number → IsRising log → IsPrefix v log
    → (b : Bool) → (number_of log == old) ≡ b
    → Goes IsKept nothing_shown moved 0 (v, (no_nib, None)) (λ n. either (n == old) e.number n) (Adds (step 0 old e.number e) (v, (no_nib, None))) ((number_of log, true) ∷ (0, true) ∷ []) log
adds_goes log v e old is_old above rising pre true is =
    let here : number_of log ≡ number_of v = (let is_here : number_of log ≡ old = grind (arith, nat_tests) in is_here ∙ sym is_old) in
    let same : v ≡ log = rising_whole 0 v log rising pre here in
    let low : number_of log < e.number = omega arith in
    let n : either (number_of log == old) e.number (number_of log) ≡ number_of (log ++ e ∷ []) = rw is (sym (number_from-snoc 0 log e)) in (
      keeps,
      e ∷ [],
      None,
      tt,
      record { words = ap (λ (k : ℕ). (k, true) ∷ (0, true) ∷ []) n; rising = rising-snoc 0 log e rising low },
      inl (refl, refl),
      rw is (ap (λ w. w ++ e ∷ []) (sym same)),
    )
adds_goes log v e old is_old above rising pre false is =
    let all : log ++ [] ≡ log = append-nil log in
    let n : either (number_of log == old) e.number (number_of log) ≡ number_of (log ++ []) = rw is (ap number_of (sym all)) in (
      keeps,
      [],
      None,
      tt,
      record { words = ap (λ (k : ℕ). (k, true) ∷ (0, true) ∷ []) n; rising = subst IsRising (sym all) rising },
      inl (refl, refl),
      rw is tt,
    )

-- whatever the book is, the exchange adds the release to all that was seen, or finds that the list is longer
pub adds_moves : (v : List Release) (e : Release) (old : ℕ) → number_of v ≡ old → number_of v < e.number
    → Moves IsKept nothing_shown moved 0 (v, (no_nib, None)) (λ n. either (n == old) e.number n) (Adds (step 0 old e.number e) (v, (no_nib, None)))
adds_moves v e old is_old above cs log kept pre away =
    let P : List Cell → Type 0 = λ c. (0 < length c) × ((cell c 0).1 ≡ true) × Goes IsKept nothing_shown moved 0 (v, (no_nib, None)) (λ n. either (n == old) e.number n) (Adds (step 0 old e.number e) (v, (no_nib, None))) c log in
    subst P (sym kept.words) (omega arith, refl, adds_goes log v e old is_old above kept.rising pre (number_of log == old) refl)
