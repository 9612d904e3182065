-- Texts with commas between them.
use Rattle.std.proofs.Common.{◌≡◌, ℕ, zero, suc, ◌+◌, ◌<◌, Bool, true, false, not, List, [], ◌∷◌, length, take, drop, Option, Some, None, cond, arith, inl, inr, refl, sym, ap, ◌∙◌, subst, nat_lt, le_refl, slice_range, Result, Ok, Err, IsErrAnd}
use Rattle.std.proofs.lemmas.Bool.{cases_Bool}
use Rattle.std.proofs.lemmas.Bool.Decides.{nat_tests}
use Rattle.std.proofs.lemmas.Option.{none-some, same_Some}
use Rattle.std.proofs.lemmas.Result.{err_from_is_err_and}
use Rattle.std.specs.Prelude.{nat_eq, position, ⊤}
use Rattle.std.proofs.lemmas.List.{length-drop}
use Rattle.std.proofs.lemmas.Slice.{between_to_end}
use Rattle.std.specs.List.{position_or_len}
use Rattle.net_addresses.specs.declared.network.Network.{Network}
use Rattle.net_addresses.specs.declared.networks.Networks.{Networks}
use Rattle.net_addresses.specs.declared.networks.NetworksFault.{NetworksFault}
use Rattle.net_addresses.specs.declared.networks.NetworksFault.TheVariants.{Entry, Memory, TooMany}
use Rattle.net_addresses.specs.Texts.{put_front, texts_in, with_text, with_texts, Gives, Leaves}

-- how many bytes stand in front of the first comma
abbrev before : List ℕ → ℕ
before rest = position_or_len (nat_eq 44) rest

one_more : (x : ℕ) (xs : List ℕ) (n m : ℕ) → m ≡ suc n → texts_in xs ≡ take n xs ∷ texts_in (drop (suc n) xs) → put_front x (texts_in xs) ≡ take m (x ∷ xs) ∷ texts_in (drop (suc m) (x ∷ xs))
one_more x xs n m e h = rw e (ap (put_front x) h)

cut_at : (rest : List ℕ) → before rest < length rest → texts_in rest ≡ take (before rest) rest ∷ texts_in (drop (suc (before rest)) rest)
cut_at [] h = absurd (omega arith)
cut_at (x ∷ xs) h = elim (cases_Bool (nat_eq 44 x)) [
  | inl is ↦ rw is refl
  | inr isnt ↦ let more : before xs < length xs = omega (arith, rw isnt at h) in rw isnt (one_more x xs (before xs) (1 + before xs) (omega arith) (cut_at xs more))
]

whole_at : (rest : List ℕ) → ¬ (before rest < length rest) → texts_in rest ≡ rest ∷ []
whole_at [] h = refl
whole_at (x ∷ xs) h = elim (cases_Bool (nat_eq 44 x)) [
  | inl is ↦ absurd (h (rw is (omega arith)))
  | inr isnt ↦ let no_more : ¬ (before xs < length xs) = λ more. h (rw isnt (omega (arith, more))) in rw isnt (ap (put_front x) (whole_at xs no_more))
]

-- a text with a comma
pub cut : (rest : List ℕ) (comma : ℕ) → position (nat_eq 44) rest ≡ Some comma → texts_in rest ≡ take comma rest ∷ texts_in (drop (comma + 1) rest)
cut rest comma e = elim (cases_Bool (nat_lt (before rest) (length rest))) [
  | inl is ↦
      let at : before rest ≡ comma = same_Some (before rest) comma (rw is at e) in
      let here : texts_in rest ≡ take comma rest ∷ texts_in (drop (suc comma) rest) = subst (λ (k : ℕ). texts_in rest ≡ take k rest ∷ texts_in (drop (suc k) rest)) at (cut_at rest (grind (arith, nat_tests))) in
      let behind : suc comma ≡ comma + 1 = omega arith in
      subst (λ (k : ℕ). texts_in rest ≡ take comma rest ∷ texts_in (drop k rest)) behind here
  | inr isnt ↦ absurd (none-some comma (rw isnt at e))
]

-- the same by parts of the text
pub cut_parts : (rest : List ℕ) (comma : ℕ) → position (nat_eq 44) rest ≡ Some comma → comma < length rest
    → (texts_in rest ≡ take comma rest ∷ texts_in (slice_range rest (comma + 1) (length rest))) × (length (slice_range rest (comma + 1) (length rest)) < length rest)
cut_parts rest comma e lt =
    let behind : slice_range rest (comma + 1) (length rest) ≡ drop (comma + 1) rest = between_to_end rest (comma + 1) (length rest) (le_refl (length rest)) in
    let shorter : length (drop (comma + 1) rest) < length rest = rw (length-drop (comma + 1) rest) (omega (arith, lt)) in
    rw behind (cut rest comma e, shorter)

-- a text without
pub whole : (rest : List ℕ) → position (nat_eq 44) rest ≡ None → texts_in rest ≡ rest ∷ []
whole rest e = elim (cases_Bool (nat_lt (before rest) (length rest))) [
  | inl is ↦ absurd (none-some (before rest) (sym (rw is at e)))
  | inr isnt ↦ whole_at rest (grind (arith, nat_tests))
]

-- ---- what is read of them

-- a fault is that of what is said, unless memory ran out
abbrev pub IsFault : Result (List Network) NetworksFault → NetworksFault → Type 0
IsFault said Memory = ⊤
IsFault said fault = said ≡ Err fault

given : (said : Result (List Network) NetworksFault) (e : NetworksFault) → IsFault said e → Gives said (Err e)
given said Memory h = h
given said (Entry entry fault) h = h
given said TooMany h = h

-- what `?` hands on
pub handed : (said : Result (List Network) NetworksFault) (r : Result Networks NetworksFault) (e : NetworksFault) → IsErrAnd r (λ x. x ≡ e) → IsFault said e → Gives said r
handed said r e is h = let p = err_from_is_err_and r is in rw (p.1, p.2) (given said e h)

pub left : (said : Result (List Network) NetworksFault) (old new : List Network) (e : NetworksFault) → Leaves said old new (Err e) → IsFault said e
left said old new Memory h = tt
left said old new (Entry entry fault) h = h.0
left said old new TooMany h = h.0

-- the fault of the first text is that of all
pub first_told : (networks : List Network) (text : List ℕ) (texts : List (List ℕ)) (e : NetworksFault) → IsFault (with_text networks text) e → IsFault (with_texts networks (text ∷ texts)) e
first_told networks text texts Memory h = tt
first_told networks text texts (Entry entry fault) h = rw h refl
first_told networks text texts TooMany h = rw h refl

pub first_read : (networks more : List Network) (text : List ℕ) (texts : List (List ℕ)) → with_text networks text ≡ Ok more → with_texts networks (text ∷ texts) ≡ with_texts more texts
first_read networks more text texts h = rw h refl
