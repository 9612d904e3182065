use Rattle.std.proofs.Common.{◌≡◌, ℕ, ◌<◌, ◌^◌, refl, arith}
use Rattle.std.specs.Prelude.{◌/◌, ◌%◌}
use Rattle.std.specs.Int.{w16}
use Rattle.std.proofs.lemmas.Int.{of_z-to_z}
use Rattle.il_real.proofs.Values.{real_small, with_own_pattern}
use Rattle.il_model.specs.Doubles.{high_word, low_word, pattern_of_words}
use Rattle.il_model.proofs.program.DoubleType.pattern.Goals as goal

words_join : (p : ℕ) → p < 2 ^ 32 → pattern_of_words (high_word p) (low_word p) ≡ p
words_join p lt =
    let high = of_z-to_z w16 (p / 2 ^ 16) (omega (arith, lt)) in
    let low = of_z-to_z w16 (p % 2 ^ 16) (omega (arith, lt)) in
    rw (high, low) (omega (arith, lt))

pub returns-in-Real-Real-clause-read_again : goal.returns-in-Real-Real-clause-read_again
returns-in-Real-Real-clause-read_again c =
    let r = c.in-Real-Real.number in
    rw (c.in-Real-Real.is-0, c.in-Real-Real.is-1, words_join r.pattern (real_small r), with_own_pattern r) refl
