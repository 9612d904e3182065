-- A double word after whole writes.
use Rattle.std.proofs.Common.{◌≡◌, ◌≢◌, ℕ, ◌+◌, ◌-◌, ◌<◌, ◌≤◌, Bool, true, false, cond, ◌&&◌, List, [], ◌∷◌, ◌++◌, length, get_or, take, drop, Option, Some, None, inl, inr, refl, sym, ap, ap₂, subst, ◌∙◌, arith, length-append}
use Rattle.std.specs.Prelude.{ℤ, pos, nat_le, nat_lt, unwrap_or}
use Rattle.std.specs.List.{AllByRecursion, splice}
use Rattle.std.proofs.lemmas.List.{get_or_append_left, get_or-append_right, get_or-take, get_or-drop, get_or-set_other, length-take-le, length-drop, length-set}
use Rattle.std.proofs.lemmas.Bool.{le-leb, lt-ltb, leb-true, ltb-true}
use Rattle.il_model.specs.declared.cells.Cells.{Cells}
use Rattle.io_image.specs.Book.{Change, bits_at, words_at, mask_at, masked, LiesInside, after_change, replayed}
use Rattle.modbus_server.specs.Doubles.{double_at, Misses, Covers, IsWhole, given, last_given, DoublesAreWhole}

-- ---- words that were laid over others

before : (xs vs : List ℤ) (at k : ℕ) → at + length vs ≤ length xs → k < at → get_or (splice xs at (at + length vs) vs) k (pos 0) ≡ get_or xs k (pos 0)
before xs vs at k fits lt =
    let front : length (take at xs) ≡ at = length-take-le at xs (omega (arith, fits)) in
    get_or_append_left (take at xs) (vs ++ drop (at + length vs) xs) (pos 0) k (omega (arith, front, lt)) ∙ get_or-take at xs k (pos 0) lt

within : (xs vs : List ℤ) (at k : ℕ) → at + length vs ≤ length xs → at ≤ k → k < at + length vs → get_or (splice xs at (at + length vs) vs) k (pos 0) ≡ get_or vs (k - at) (pos 0)
within xs vs at k fits le lt =
    let front : length (take at xs) ≡ at = length-take-le at xs (omega (arith, fits)) in
    get_or-append_right (take at xs) (vs ++ drop (at + length vs) xs) at k (pos 0) front le ∙ get_or_append_left vs (drop (at + length vs) xs) (pos 0) (k - at) (omega (arith, le, lt))

behind : (xs vs : List ℤ) (at k : ℕ) → at + length vs ≤ length xs → at + length vs ≤ k → get_or (splice xs at (at + length vs) vs) k (pos 0) ≡ get_or xs k (pos 0)
behind xs vs at k fits le =
    let front : length (take at xs) ≡ at = length-take-le at xs (omega (arith, fits)) in
    let place : at + length vs + (k - at - length vs) ≡ k = omega (arith, le) in
    get_or-append_right (take at xs) (vs ++ drop (at + length vs) xs) at k (pos 0) front (omega (arith, le))
    ∙ (get_or-append_right vs (drop (at + length vs) xs) (length vs) (k - at) (pos 0) refl (omega (arith, le))
    ∙ (get_or-drop (at + length vs) xs (k - at - length vs) (pos 0) ∙ ap (λ (i : ℕ). get_or xs i (pos 0)) place))

long : (xs vs : List ℤ) (at : ℕ) → at + length vs ≤ length xs → length (splice xs at (at + length vs) vs) ≡ length xs
long xs vs at fits =
    let front : length (take at xs) ≡ at = length-take-le at xs (omega (arith, fits)) in
    omega (arith, front, length-append (take at xs) (vs ++ drop (at + length vs) xs), length-append vs (drop (at + length vs) xs), length-drop (at + length vs) xs)

-- ---- one write

pair : (a b x y : ℤ) → a ≡ x → b ≡ y → ◌≡◌ {A = ℤ × ℤ} (a, b) (x, y)
pair a b x y e f = ap₂ (λ (u v : ℤ). (u, v)) e f

taken : (p q : Bool) (x y : ℤ × ℤ) → p ≡ true → q ≡ true → unwrap_or (cond (p && q) (Some x) None) y ≡ x
taken true true x y e f = refl
taken true false x y e f = absurd cc
taken false q x y e f = absurd cc

left : (p q : Bool) (x y : ℤ × ℤ) → (p ≡ true → q ≡ true → ⊥) → unwrap_or (cond (p && q) (Some x) None) y ≡ y
left true true x y none = absurd (none refl refl)
left true false x y none = refl
left false q x y none = refl

-- what a write makes of the double word, and of the number of words
record Wrote (n : ℕ) (c : Cells) (x : Change) : Type 0 where
  double : double_at n (after_change c x).words ≡ unwrap_or (given n x) (double_at n c.words)
  words : length (after_change c x).words ≡ 64

covered : (n : ℕ) (c : Cells) (at : ℕ) (vs : List ℤ) → length c.words ≡ 64 → at + length vs ≤ 64 → Covers n at (length vs) → Wrote n c (words_at at vs)
covered n c at vs words inside h =
    let fits : at + length vs ≤ length c.words = omega (arith, words, inside) in
    let next : n + 1 - at ≡ n - at + 1 = omega (arith, h.0) in
    let high = within c.words vs at n fits h.0 (omega (arith, h.1)) in
    let low = within c.words vs at (n + 1) fits (omega (arith, h.0)) h.1 ∙ ap (λ (i : ℕ). get_or vs i (pos 0)) next in
    record {
      double = pair _ _ _ _ high low ∙ sym (taken (nat_le at n) (nat_lt (n + 1) (at + length vs)) (double_at (n - at) vs) (double_at n c.words) (le-leb at n h.0) (lt-ltb (n + 1) (at + length vs) h.1));
      words = long c.words vs at fits ∙ words;
    }

missed : (n : ℕ) (c : Cells) (at : ℕ) (vs : List ℤ) → length c.words ≡ 64 → at + length vs ≤ 64 → Misses n at (length vs) → Wrote n c (words_at at vs)
missed n c at vs words inside (inl h) =
    let fits : at + length vs ≤ length c.words = omega (arith, words, inside) in
    record {
      double = pair _ _ _ _ (behind c.words vs at n fits h) (behind c.words vs at (n + 1) fits (omega (arith, h)))
          ∙ sym (left (nat_le at n) (nat_lt (n + 1) (at + length vs)) (double_at (n - at) vs) (double_at n c.words) (λ e f. let below = ltb-true (n + 1) (at + length vs) f in omega (arith, h, below)));
      words = long c.words vs at fits ∙ words;
    }
missed n c at vs words inside (inr h) =
    let fits : at + length vs ≤ length c.words = omega (arith, words, inside) in
    record {
      double = pair _ _ _ _ (before c.words vs at n fits (omega (arith, h))) (before c.words vs at (n + 1) fits h)
          ∙ sym (left (nat_le at n) (nat_lt (n + 1) (at + length vs)) (double_at (n - at) vs) (double_at n c.words) (λ e f. let below = leb-true at n e in omega (arith, h, below)));
      words = long c.words vs at fits ∙ words;
    }

apart : (n at : ℕ) → Misses n at 1 → (n ≢ at) × (n + 1 ≢ at)
apart n at (inl h) = (omega (arith, h), omega (arith, h))
apart n at (inr h) = (omega (arith, h), omega (arith, h))

wrote : (n : ℕ) (c : Cells) (x : Change) → length c.words ≡ 64 → LiesInside x → IsWhole n x → Wrote n c x
wrote n c (bits_at at values) words inside h = record { double = refl; words = words }
wrote n c (words_at at vs) words inside (inl h) = covered n c at vs words inside h
wrote n c (words_at at vs) words inside (inr h) = missed n c at vs words inside h
wrote n c (mask_at at and_mask or_mask) words inside h =
    let other = apart n at h in
    let word = masked (get_or c.words at (pos 0)) and_mask or_mask in
    record {
      double = pair _ _ _ _ (get_or-set_other c.words at n word (pos 0) other.0) (get_or-set_other c.words at (n + 1) word (pos 0) other.1);
      words = length-set c.words at word ∙ words;
    }

-- ---- any number of them

pub are_whole : DoublesAreWhole
are_whole n c [] lt words inside whole = refl
are_whole n c (x ∷ xs) lt words inside whole =
    let one = wrote n c x words inside.0 whole.0 in
    are_whole n (after_change c x) xs lt one.words inside.1 whole.1 ∙ ap (λ (before : ℤ × ℤ). last_given n before xs) one.double
