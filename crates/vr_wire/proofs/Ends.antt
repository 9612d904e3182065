-- Where cells end.
use Rattle.std.proofs.Common.{◌≡◌, ℕ, zero, suc, ◌+◌, ◌*◌, ◌<◌, ◌≤◌, true, false, ltb, List, length, drop, Some, None, refl, ap, ◌∙◌, arith, length-drop, inl, inr}
use Rattle.std.proofs.lemmas.Bool.{cases_lt, lt-ltb, le-ltb}
use Rattle.std.proofs.lemmas.List.{drop-drop}
use Rattle.vr_wire.specs.Reading.{items_at, word_at, cells_at, end_of}
use Rattle.vr_wire.proofs.Items.{past_made, one_past, none_past}

word_short : (bytes : List ℕ) → length bytes < 2 → end_of word_at bytes ≡ None
word_short bytes lt = let short : ltb (length bytes) 2 ≡ true = lt-ltb _ _ lt in rw short refl

word_long : (bytes : List ℕ) → 2 ≤ length bytes → end_of word_at bytes ≡ Some (drop 2 bytes)
word_long bytes le = let long : ltb (length bytes) 2 ≡ false = le-ltb _ _ le in rw long refl

words_short : (n : ℕ) (bytes : List ℕ) → length bytes < 2 * n → end_of (items_at word_at n) bytes ≡ None
words_short zero bytes lt = absurd (omega arith)
words_short (suc n) bytes lt =
    elim (cases_lt (length bytes) 2) [
      | inl few ↦ none_past word_at n bytes (word_at bytes) refl (word_short bytes few)
      | inr enough ↦ one_past word_at n bytes (drop 2 bytes) (word_at bytes) refl (word_long bytes enough) ∙ words_short n (drop 2 bytes) (omega (arith, length-drop 2 bytes))
    ]

words_long : (n : ℕ) (bytes : List ℕ) → 2 * n ≤ length bytes → end_of (items_at word_at n) bytes ≡ Some (drop (2 * n) bytes)
unfolding items_at
words_long zero bytes le = refl
words_long (suc n) bytes le =
    let all : 2 + 2 * n ≡ 2 * suc n = omega arith in
    one_past word_at n bytes (drop 2 bytes) (word_at bytes) refl (word_long bytes (omega arith)) ∙ (words_long n (drop 2 bytes) (omega (arith, length-drop 2 bytes)) ∙ ap Some (drop-drop (2 * n) 2 bytes ∙ ap (λ (m : ℕ). drop m bytes) all))

-- bits, then words
behind_bits : (bytes : List ℕ) → 64 ≤ length bytes → end_of cells_at bytes ≡ end_of (items_at word_at 64) (drop 64 bytes)
behind_bits bytes le =
    let long : ltb (length bytes) 64 ≡ false = le-ltb _ _ le in
    rw long (past_made _ (items_at word_at 64 (drop 64 bytes)))

pub cells_short : (bytes : List ℕ) → length bytes < 192 → end_of cells_at bytes ≡ None
cells_short bytes lt =
    elim (cases_lt (length bytes) 64) [
      | inl few ↦ (let short : ltb (length bytes) 64 ≡ true = lt-ltb _ _ few in rw short refl)
      | inr enough ↦ behind_bits bytes enough ∙ words_short 64 (drop 64 bytes) (omega (arith, length-drop 64 bytes))
    ]

pub cells_long : (bytes : List ℕ) → 192 ≤ length bytes → end_of cells_at bytes ≡ Some (drop 192 bytes)
cells_long bytes le = behind_bits bytes (omega arith) ∙ (words_long 64 (drop 64 bytes) (omega (arith, length-drop 64 bytes)) ∙ ap Some (drop-drop 128 64 bytes))
