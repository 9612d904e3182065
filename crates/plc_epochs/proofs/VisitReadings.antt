-- A visit that is read is the one that was spelled.
use Rattle.std.proofs.Common.{◌≡◌, ℕ, zero, suc, ◌+◌, ◌*◌, ◌-◌, ◌^◌, ◌<◌, ◌≤◌, Bool, true, false, cond, eqb, not, ◌&&◌, List, [], ◌∷◌, ◌++◌, length, get_or, take, drop, replicate, Option, Some, None, IfSome, refl, sym, ap, ap₂, subst, ◌∙◌, arith, inl, inr, length-append, length-take, length-drop}
use Rattle.std.specs.Prelude.{slice_index}
use Rattle.std.specs.List.{flat_map, list_all, AllByRecursion}
use Rattle.std.specs.Int.{w64, from_be_bytes, to_be_bytes}
use Rattle.std.proofs.lemmas.Bool.{cases_lt, eqb-true}
use Rattle.std.proofs.lemmas.List.{take_at, drop_at, take-append-drop, get_or-drop, get_or-take, get_or_past}
use Rattle.std.proofs.lemmas.Nat.{be_bytes_8, from_be_bytes-to_be_bytes_8}
use Rattle.vr_model.specs.Groups.{most_replicas}
use Rattle.plc_epochs.specs.declared.visit.Visit.{Visit}
use Rattle.plc_epochs.specs.declared.word.Answer.{Answer}
use Rattle.plc_epochs.specs.declared.word.Word.{Word}
use Rattle.plc_epochs.specs.declared.word.Word.TheVariants.{Freeze, Frozen, Confirm, StillFrozen, Marked}
use Rattle.plc_epochs.specs.Visits.{magic, version, nonce_bytes, answer_bytes, word_bytes, said_bytes, visit_bytes}
use Rattle.plc_epochs.specs.Visits.{FitsNonce, FitsAnswer, FitsTold, FitsWord, FitsVisit, IsVisit, is_zero, nonce_by}
use Rattle.plc_epochs.specs.Visits.{nonce_of, with_nonce, nonces_of, told_of, freeze_of, marked_of, answer_of, frozen_by}
use Rattle.plc_epochs.specs.Visits.{confirm_by, still_frozen_by, word_by, word_of, said_with, said_behind, said_of}
use Rattle.plc_epochs.specs.Visits.{visit_of}

abbrev pub IsBytes : List ℕ → Type 0
IsBytes bytes = (i : ℕ) → get_or bytes i 0 < 256

IsBytes-drop : (n : ℕ) (bytes : List ℕ) → IsBytes bytes → IsBytes (drop n bytes)
IsBytes-drop n bytes h i = rw get_or-drop (h (n + i))

IsBytes-take : (n : ℕ) (bytes : List ℕ) → IsBytes bytes → IsBytes (take n bytes)
IsBytes-take n bytes h i =
    elim (cases_lt i n) [
      | inl lt ↦ rw (get_or-take n bytes i 0 lt) (h i)
      | inr le ↦ rw (get_or_past (take n bytes) i 0 (omega (arith, length-take n bytes))) (omega arith)
    ]

split : (n : ℕ) (xs : List ℕ) → xs ≡ take n xs ++ drop n xs
split n xs = sym (take-append-drop n xs)

-- eight bytes, and their number
again_8 : (bytes : List ℕ) → IsBytes bytes → length bytes ≡ 8 → to_be_bytes w64 (from_be_bytes w64 bytes) ≡ bytes
again_8 bytes are long = be_bytes_8 bytes _ long are refl

below_8 : (bytes : List ℕ) → IsBytes bytes → from_be_bytes w64 bytes < 2 ^ 64
below_8 bytes are = omega (arith, are 0, are 1, are 2, are 3, are 4, are 5, are 6, are 7)

-- ---- zeros

zeros_by : (first : Bool) (b : ℕ) (bytes : List ℕ) → (list_all is_zero bytes ≡ true → bytes ≡ replicate (length bytes) 0) → eqb b 0 ≡ first
    → (first && list_all is_zero bytes) ≡ true → b ∷ bytes ≡ replicate (length (b ∷ bytes)) 0
zeros_by true b bytes ih a e = ap₂ (λ (x : ℕ) (xs : List ℕ). x ∷ xs) (eqb-true b 0 a) (ih e)
zeros_by false b bytes ih a e = absurd cc

are_zeros : (bytes : List ℕ) → list_all is_zero bytes ≡ true → bytes ≡ replicate (length bytes) 0
are_zeros [] e = refl
are_zeros (b ∷ bytes) e = zeros_by (eqb b 0) b bytes (are_zeros bytes) refl e

so_many_zeros : (n : ℕ) (bytes : List ℕ) → length bytes ≡ n → list_all is_zero bytes ≡ true → bytes ≡ replicate n 0
so_many_zeros n bytes long e = are_zeros bytes e ∙ ap (λ (k : ℕ). replicate k 0) long

-- ---- what machines told

nonce_length : (x : Option ℕ) → length (nonce_bytes x) ≡ 9
nonce_length None = refl
nonce_length (Some n) = refl

nonce_again : (x : Option ℕ) → FitsNonce x → nonce_of (nonce_bytes x) ≡ Some x
nonce_again None fits = refl
nonce_again (Some n) fits = ap (λ (m : ℕ). Some (Some m)) (from_be_bytes-to_be_bytes_8 n fits)

nonces_again : (xs : List (Option ℕ)) → AllByRecursion FitsNonce xs → nonces_of (length xs) (flat_map nonce_bytes xs) ≡ Some xs
nonces_again [] all = refl
nonces_again (x ∷ xs) all =
    ap₂ with_nonce
    (ap nonce_of (take_at (nonce_bytes x) (flat_map nonce_bytes xs) 9 (nonce_length x)) ∙ nonce_again x all.0)
    (ap (nonces_of (length xs)) (drop_at (nonce_bytes x) (flat_map nonce_bytes xs) 9 (nonce_length x)) ∙ nonces_again xs all.1)

nonces_length : (xs : List (Option ℕ)) → length (flat_map nonce_bytes xs) ≡ 9 * length xs
nonces_length [] = refl
nonces_length (x ∷ xs) = omega (arith, length-append (nonce_bytes x) (flat_map nonce_bytes xs), nonce_length x, nonces_length xs)

told_again : (told : List (Option ℕ)) → FitsTold told → told_of (flat_map nonce_bytes told) ≡ Some told
unfolding told_of
told_again told fits = subst (λ (n : ℕ). nonces_of n (flat_map nonce_bytes told) ≡ Some told) fits.0 (nonces_again told fits.1)

nonce_found_by : (none all one : Bool) (kind : ℕ) (nonce : List ℕ) (x : Option ℕ) → IsBytes nonce → length nonce ≡ 8
    → eqb kind 0 ≡ none → list_all is_zero nonce ≡ all → eqb kind 1 ≡ one
    → cond none (cond all (Some None) None) (cond one (Some (Some (from_be_bytes w64 nonce))) None) ≡ Some x
    → (kind ∷ nonce ≡ nonce_bytes x) × FitsNonce x
nonce_found_by true true one kind nonce x are long a b c e =
    let is : None ≡ x = cc in
    let bytes : kind ∷ nonce ≡ replicate 9 0 = ap₂ (λ (k : ℕ) (ns : List ℕ). k ∷ ns) (eqb-true kind 0 a) (so_many_zeros 8 nonce long b) in
    subst (λ (y : Option ℕ). (kind ∷ nonce ≡ nonce_bytes y) × FitsNonce y) is (bytes, tt)
nonce_found_by true false one kind nonce x are long a b c e = absurd cc
nonce_found_by false all true kind nonce x are long a b c e =
    let n = from_be_bytes w64 nonce in
    let is : Some n ≡ x = cc in
    let bytes : kind ∷ nonce ≡ 1 ∷ to_be_bytes w64 n = ap₂ (λ (k : ℕ) (ns : List ℕ). k ∷ ns) (eqb-true kind 1 c) (sym (again_8 nonce are long)) in
    subst (λ (y : Option ℕ). (kind ∷ nonce ≡ nonce_bytes y) × FitsNonce y) is (bytes, below_8 nonce are)
nonce_found_by false all false kind nonce x are long a b c e = absurd cc

nonce_found : (bytes : List ℕ) (x : Option ℕ) → IsBytes bytes → length bytes ≡ 9 → nonce_of bytes ≡ Some x → (bytes ≡ nonce_bytes x) × FitsNonce x
nonce_found [] x are long e = absurd (omega (arith, long))
nonce_found (kind ∷ nonce) x are long e =
    nonce_found_by (eqb kind 0) (list_all is_zero nonce) (eqb kind 1) kind nonce x (λ i. are (suc i)) (omega (arith, long)) refl refl refl e

with_nonce_found : (p : Option (Option ℕ)) (q : Option (List (Option ℕ))) (xs : List (Option ℕ)) → with_nonce p q ≡ Some xs
    → (x : Option ℕ) × (ys : List (Option ℕ)) × (p ≡ Some x) × (q ≡ Some ys) × (x ∷ ys ≡ xs)
with_nonce_found None q xs e = absurd cc
with_nonce_found (Some x) None xs e = absurd cc
with_nonce_found (Some x) (Some ys) xs e = (x, ys, refl, refl, cc)

nonces_found : (n : ℕ) (bytes : List ℕ) (xs : List (Option ℕ)) → IsBytes bytes → length bytes ≡ 9 * n → nonces_of n bytes ≡ Some xs
    → (bytes ≡ flat_map nonce_bytes xs) × (length xs ≡ n) × AllByRecursion FitsNonce xs
nonces_found zero [] xs are long e =
    let is : [] ≡ xs = cc in
    subst (λ (ys : List (Option ℕ)). ([] ≡ flat_map nonce_bytes ys) × (length ys ≡ 0) × AllByRecursion FitsNonce ys) is (refl, refl, tt)
nonces_found zero (b ∷ bytes) xs are long e = absurd (omega (arith, long))
nonces_found (suc n) bytes xs are long e =
    let parts = with_nonce_found (nonce_of (take 9 bytes)) (nonces_of n (drop 9 bytes)) xs e in
    let first = nonce_found (take 9 bytes) parts.0 (IsBytes-take 9 bytes are) (omega (arith, long, length-take 9 bytes)) parts.2 in
    let others = nonces_found n (drop 9 bytes) parts.1 (IsBytes-drop 9 bytes are) (omega (arith, long, length-drop 9 bytes)) parts.3 in
    let whole : bytes ≡ flat_map nonce_bytes (parts.0 ∷ parts.1) = split 9 bytes ∙ ap₂ (λ (f r : List ℕ). f ++ r) first.0 others.0 in
    subst (λ (ys : List (Option ℕ)). (bytes ≡ flat_map nonce_bytes ys) × (length ys ≡ suc n) × AllByRecursion FitsNonce ys) parts.4
    (whole, ap suc others.1, (first.1, others.2))

-- ---- words

word_parts : (kind question : ℕ) (rest : List ℕ) → question < 2 ^ 64 → word_of (kind ∷ (to_be_bytes w64 question ++ rest)) ≡ word_by kind question rest
unfolding word_of
word_parts kind question rest fits =
    let number = to_be_bytes w64 question in
    ap₂ (λ (q r : List ℕ). word_by kind (from_be_bytes w64 q) r) (take_at number rest 8 refl) (drop_at number rest 8 refl)
    ∙ ap (λ (q : ℕ). word_by kind q rest) (from_be_bytes-to_be_bytes_8 question fits)

word_length_by : (kind question : ℕ) (rest : List ℕ) → length rest ≡ 63 → length (kind ∷ (to_be_bytes w64 question ++ rest)) ≡ 72
word_length_by kind question rest long = let number = to_be_bytes w64 question in omega (arith, long, length-append number rest)

answer_length : (a : Answer) → length (to_be_bytes w64 a.nonce ++ replicate 55 0) ≡ 63
answer_length a = let number = to_be_bytes w64 a.nonce in omega (arith, length-append number (replicate 55 0))

answer_again : (a : Answer) → FitsAnswer a → answer_of a.question (to_be_bytes w64 a.nonce ++ replicate 55 0) ≡ Some a
answer_again a fits =
    let number = to_be_bytes w64 a.nonce in
    let zeros : List ℕ = replicate 55 0 in
    ap₂ (λ (n z : List ℕ). cond (list_all is_zero z) (Some (record { question = a.question; nonce = from_be_bytes w64 n })) None) (take_at number zeros 8 refl) (drop_at number zeros 8 refl)
    ∙ ap (λ (n : ℕ). Some (record { question = a.question; nonce = n })) (from_be_bytes-to_be_bytes_8 a.nonce fits.1)

word_length : (w : Word) → FitsWord w → length (word_bytes w) ≡ 72
word_length (Freeze question) fits = word_length_by 0 question (replicate 63 0) refl
word_length (Frozen a) fits = word_length_by 1 a.question (to_be_bytes w64 a.nonce ++ replicate 55 0) (answer_length a)
word_length (Confirm question asked) fits = word_length_by 2 question (flat_map nonce_bytes asked) (omega (arith, nonces_length asked, fits.1.0))
word_length (StillFrozen a) fits = word_length_by 3 a.question (to_be_bytes w64 a.nonce ++ replicate 55 0) (answer_length a)
word_length (Marked question) fits = word_length_by 4 question (replicate 63 0) refl

word_again : (w : Word) → FitsWord w → word_of (word_bytes w) ≡ Some w
word_again (Freeze question) fits = word_parts 0 question (replicate 63 0) fits
word_again (Frozen a) fits = word_parts 1 a.question (to_be_bytes w64 a.nonce ++ replicate 55 0) fits.0 ∙ ap frozen_by (answer_again a fits)
word_again (Confirm question asked) fits = word_parts 2 question (flat_map nonce_bytes asked) fits.0 ∙ ap (confirm_by question) (told_again asked fits.1)
word_again (StillFrozen a) fits = word_parts 3 a.question (to_be_bytes w64 a.nonce ++ replicate 55 0) fits.0 ∙ ap still_frozen_by (answer_again a fits)
word_again (Marked question) fits = word_parts 4 question (replicate 63 0) fits

-- a word by the parts of its bytes
pub word_in : (bytes rest front back : List ℕ) (kind n : ℕ) (w : Option Word) → rest ≡ drop 1 bytes → front ≡ take 8 rest → back ≡ drop 8 rest
    → kind ≡ slice_index bytes 0 → n ≡ from_be_bytes w64 front → w ≡ word_by kind n back → w ≡ word_of bytes
unfolding word_of
word_in bytes rest front back kind n w is_rest is_front is_back is_kind is_n is =
    let first : front ≡ take 8 (drop 1 bytes) = is_front ∙ ap (take 8) is_rest in
    let second : back ≡ drop 8 (drop 1 bytes) = is_back ∙ ap (drop 8) is_rest in
    is ∙ (ap (λ (k : ℕ). word_by k n back) is_kind ∙ ap₂ (λ (m : ℕ) (r : List ℕ). word_by (slice_index bytes 0) m r) (is_n ∙ ap (from_be_bytes w64) first) second)

module _ (question : ℕ) (rest : List ℕ) (below : question < 2 ^ 64) (are : IsBytes rest) (long : length rest ≡ 63) where
  freeze_found : (all : Bool) (w : Word) → list_all is_zero rest ≡ all → cond all (Some (Freeze question)) None ≡ Some w
      → (0 ∷ (to_be_bytes w64 question ++ rest) ≡ word_bytes w) × FitsWord w
  freeze_found true w a e =
      let is : Freeze question ≡ w = cc in
      let zeros : rest ≡ replicate 63 0 = so_many_zeros 63 rest long a in
      subst (λ (x : Word). (0 ∷ (to_be_bytes w64 question ++ rest) ≡ word_bytes x) × FitsWord x) is (ap (λ (r : List ℕ). 0 ∷ (to_be_bytes w64 question ++ r)) zeros, below)
  freeze_found false w a e = absurd cc

  marked_found : (all : Bool) (w : Word) → list_all is_zero rest ≡ all → cond all (Some (Marked question)) None ≡ Some w
      → (4 ∷ (to_be_bytes w64 question ++ rest) ≡ word_bytes w) × FitsWord w
  marked_found true w a e =
      let is : Marked question ≡ w = cc in
      let zeros : rest ≡ replicate 63 0 = so_many_zeros 63 rest long a in
      subst (λ (x : Word). (4 ∷ (to_be_bytes w64 question ++ rest) ≡ word_bytes x) × FitsWord x) is (ap (λ (r : List ℕ). 4 ∷ (to_be_bytes w64 question ++ r)) zeros, below)
  marked_found false w a e = absurd cc

  answer_found_by : (all : Bool) (a : Answer) → list_all is_zero (drop 8 rest) ≡ all
      → cond all (Some (record { question = question; nonce = from_be_bytes w64 (take 8 rest) })) None ≡ Some a
      → (to_be_bytes w64 question ++ rest ≡ answer_bytes a) × FitsAnswer a
  answer_found_by true a z e =
      let nonce = take 8 rest in
      let read : Answer = record { question = question; nonce = from_be_bytes w64 nonce } in
      let is : read ≡ a = cc in
      let zeros : drop 8 rest ≡ replicate 55 0 = so_many_zeros 55 (drop 8 rest) (omega (arith, long, length-drop 8 rest)) z in
      let again : to_be_bytes w64 (from_be_bytes w64 nonce) ≡ nonce = again_8 nonce (IsBytes-take 8 rest are) (omega (arith, long, length-take 8 rest)) in
      let whole : rest ≡ to_be_bytes w64 read.nonce ++ replicate 55 0 = split 8 rest ∙ ap₂ (λ (n z : List ℕ). n ++ z) (sym again) zeros in
      subst (λ (x : Answer). (to_be_bytes w64 question ++ rest ≡ answer_bytes x) × FitsAnswer x) is (ap (λ (r : List ℕ). to_be_bytes w64 question ++ r) whole, (below, below_8 nonce (IsBytes-take 8 rest are)))
  answer_found_by false a z e = absurd cc

  answer_found : (a : Answer) → answer_of question rest ≡ Some a → (to_be_bytes w64 question ++ rest ≡ answer_bytes a) × FitsAnswer a
  answer_found a e = answer_found_by (list_all is_zero (drop 8 rest)) a refl e

  frozen_found : (x : Option Answer) (w : Word) → answer_of question rest ≡ x → frozen_by x ≡ Some w
      → (1 ∷ (to_be_bytes w64 question ++ rest) ≡ word_bytes w) × FitsWord w
  frozen_found (Some a) w was e =
      let is : Frozen a ≡ w = cc in
      let found = answer_found a was in
      subst (λ (x : Word). (1 ∷ (to_be_bytes w64 question ++ rest) ≡ word_bytes x) × FitsWord x) is (ap (λ (r : List ℕ). 1 ∷ r) found.0, found.1)
  frozen_found None w was e = absurd cc

  still_frozen_found : (x : Option Answer) (w : Word) → answer_of question rest ≡ x → still_frozen_by x ≡ Some w
      → (3 ∷ (to_be_bytes w64 question ++ rest) ≡ word_bytes w) × FitsWord w
  still_frozen_found (Some a) w was e =
      let is : StillFrozen a ≡ w = cc in
      let found = answer_found a was in
      subst (λ (x : Word). (3 ∷ (to_be_bytes w64 question ++ rest) ≡ word_bytes x) × FitsWord x) is (ap (λ (r : List ℕ). 3 ∷ r) found.0, found.1)
  still_frozen_found None w was e = absurd cc

  confirm_found : (x : Option (List (Option ℕ))) (w : Word) → told_of rest ≡ x → confirm_by question x ≡ Some w
      → (2 ∷ (to_be_bytes w64 question ++ rest) ≡ word_bytes w) × FitsWord w
  unfolding told_of
  confirm_found (Some asked) w was e =
      let is : Confirm question asked ≡ w = cc in
      let found = nonces_found most_replicas rest asked are long was in
      subst (λ (x : Word). (2 ∷ (to_be_bytes w64 question ++ rest) ≡ word_bytes x) × FitsWord x) is
      (ap (λ (r : List ℕ). 2 ∷ (to_be_bytes w64 question ++ r)) found.0, (below, (found.1, found.2)))
  confirm_found None w was e = absurd cc

  word_found_by : (first one two three four : Bool) (kind : ℕ) (w : Word) → eqb kind 0 ≡ first → eqb kind 1 ≡ one → eqb kind 2 ≡ two → eqb kind 3 ≡ three → eqb kind 4 ≡ four
      → cond first (freeze_of question rest) (cond one (frozen_by (answer_of question rest)) (cond two (confirm_by question (told_of rest)) (cond three (still_frozen_by (answer_of question rest)) (cond four (marked_of question rest) None)))) ≡ Some w
      → (kind ∷ (to_be_bytes w64 question ++ rest) ≡ word_bytes w) × FitsWord w
  word_found_by true one two three four kind w a b c d g e =
      subst (λ (k : ℕ). (k ∷ (to_be_bytes w64 question ++ rest) ≡ word_bytes w) × FitsWord w) (sym (eqb-true kind 0 a)) (freeze_found (list_all is_zero rest) w refl e)
  word_found_by false true two three four kind w a b c d g e =
      subst (λ (k : ℕ). (k ∷ (to_be_bytes w64 question ++ rest) ≡ word_bytes w) × FitsWord w) (sym (eqb-true kind 1 b)) (frozen_found (answer_of question rest) w refl e)
  word_found_by false false true three four kind w a b c d g e =
      subst (λ (k : ℕ). (k ∷ (to_be_bytes w64 question ++ rest) ≡ word_bytes w) × FitsWord w) (sym (eqb-true kind 2 c)) (confirm_found (told_of rest) w refl e)
  word_found_by false false false true four kind w a b c d g e =
      subst (λ (k : ℕ). (k ∷ (to_be_bytes w64 question ++ rest) ≡ word_bytes w) × FitsWord w) (sym (eqb-true kind 3 d)) (still_frozen_found (answer_of question rest) w refl e)
  word_found_by false false false false true kind w a b c d g e =
      subst (λ (k : ℕ). (k ∷ (to_be_bytes w64 question ++ rest) ≡ word_bytes w) × FitsWord w) (sym (eqb-true kind 4 g)) (marked_found (list_all is_zero rest) w refl e)
  word_found_by false false false false false kind w a b c d g e = absurd cc

word_found : (bytes : List ℕ) (w : Word) → IsBytes bytes → length bytes ≡ 72 → word_of bytes ≡ Some w → (bytes ≡ word_bytes w) × FitsWord w
unfolding word_of
word_found [] w are long e = absurd (omega (arith, long))
word_found (kind ∷ rest) w are long e =
    let question = take 8 rest in
    let others = drop 8 rest in
    let are_rest : IsBytes rest = λ i. are (suc i) in
    let are_question : IsBytes question = IsBytes-take 8 rest are_rest in
    let again : to_be_bytes w64 (from_be_bytes w64 question) ≡ question = again_8 question are_question (omega (arith, long, length-take 8 rest)) in
    let found = word_found_by (from_be_bytes w64 question) others (below_8 question are_question) (IsBytes-drop 8 rest are_rest) (omega (arith, long, length-drop 8 rest))
    (eqb kind 0) (eqb kind 1) (eqb kind 2) (eqb kind 3) (eqb kind 4) kind w refl refl refl refl refl e in
    let whole : rest ≡ to_be_bytes w64 (from_be_bytes w64 question) ++ others = split 8 rest ∙ ap (λ (q : List ℕ). q ++ others) (sym again) in
    (ap (λ (r : List ℕ). kind ∷ r) whole ∙ found.0, found.1)

-- ---- what is said

module _ (v : Visit) (fits : FitsVisit v) where
  said_again : said_of (said_bytes v) ≡ Some v
  unfolding said_of
  said_again =
      let number = to_be_bytes w64 v.epoch.number in
      let third = v.from ∷ word_bytes v.word in
      let second = v.epoch.image ++ third in
      let first = number ++ second in
      let by_identity : said_of (said_bytes v) ≡ said_behind v.identity (take 8 first) (drop 8 first) = ap₂ (λ (i r : List ℕ). said_behind i (take 8 r) (drop 8 r)) (take_at v.identity first 32 fits.identity) (drop_at v.identity first 32 fits.identity) in
      let by_number : said_behind v.identity (take 8 first) (drop 8 first) ≡ said_behind v.identity number second = ap₂ (λ (n r : List ℕ). said_behind v.identity n r) (take_at number second 8 refl) (drop_at number second 8 refl) in
      let by_image : said_behind v.identity number second ≡ said_with (word_of (word_bytes v.word)) v.identity number v.epoch.image v.from = ap₂ (λ (m r : List ℕ). said_with (word_of (drop 1 r)) v.identity number m (slice_index r 0)) (take_at v.epoch.image third 32 fits.image) (drop_at v.epoch.image third 32 fits.image) in
      let by_word : said_with (word_of (word_bytes v.word)) v.identity number v.epoch.image v.from ≡ said_with (Some v.word) v.identity number v.epoch.image v.from = ap (λ (w : Option Word). said_with w v.identity number v.epoch.image v.from) (word_again v.word fits.word) in
      let numbers : said_with (Some v.word) v.identity number v.epoch.image v.from ≡ Some v = ap (λ (n : ℕ). Some (record { identity = v.identity; epoch = record { number = n; image = v.epoch.image }; from = v.from; word = v.word })) (from_be_bytes-to_be_bytes_8 v.epoch.number fits.number) in
      by_identity ∙ (by_number ∙ (by_image ∙ (by_word ∙ numbers)))

  said_length : length (said_bytes v) ≡ 145
  said_length =
      let number = to_be_bytes w64 v.epoch.number in
      let third = v.from ∷ word_bytes v.word in
      omega (arith, fits.identity, fits.image, word_length v.word fits.word, length-append v.identity (number ++ (v.epoch.image ++ third)), length-append number (v.epoch.image ++ third), length-append v.epoch.image third)

-- the parts of what is said are those that were read
said_with_found : (q : Option Word) (identity number image : List ℕ) (from : ℕ) (v : Visit) → said_with q identity number image from ≡ Some v
    → (w : Word) × (q ≡ Some w) × (record { identity = identity; epoch = record { number = from_be_bytes w64 number; image = image }; from = from; word = w } ≡ v)
said_with_found (Some w) identity number image from v e = (w, refl, cc)
said_with_found None identity number image from v e = absurd cc

one_front : (xs : List ℕ) → 1 ≤ length xs → xs ≡ slice_index xs 0 ∷ drop 1 xs
one_front [] le = absurd (omega arith)
one_front (x ∷ xs) le = refl

module _ (bytes : List ℕ) (are : IsBytes bytes) (long : length bytes ≡ 145) where
  said_found : (v : Visit) → said_of bytes ≡ Some v → (bytes ≡ said_bytes v) × FitsVisit v
  unfolding said_of
  said_found v e =
      let first = drop 32 bytes in
      let second = drop 8 first in
      let third = drop 32 second in
      let identity = take 32 bytes in
      let number = take 8 first in
      let image = take 32 second in
      let from = slice_index third 0 in
      let long_first : length first ≡ 113 = omega (arith, long, length-drop 32 bytes) in
      let long_second : length second ≡ 105 = omega (arith, long_first, length-drop 8 first) in
      let long_third : length third ≡ 73 = omega (arith, long_second, length-drop 32 second) in
      let are_first : IsBytes first = IsBytes-drop 32 bytes are in
      let are_second : IsBytes second = IsBytes-drop 8 first are_first in
      let are_third : IsBytes third = IsBytes-drop 32 second are_second in
      let found = said_with_found (word_of (drop 1 third)) identity number image from v e in
      let word = word_found (drop 1 third) found.0 (IsBytes-drop 1 third are_third) (omega (arith, long_third, length-drop 1 third)) found.1 in
      let number_again : to_be_bytes w64 (from_be_bytes w64 number) ≡ number = again_8 number (IsBytes-take 8 first are_first) (omega (arith, long_first, length-take 8 first)) in
      let read : Visit = record { identity = identity; epoch = record { number = from_be_bytes w64 number; image = image }; from = from; word = found.0 } in
      let of_word : third ≡ from ∷ word_bytes found.0 = one_front third (omega (arith, long_third)) ∙ ap (λ (t : List ℕ). from ∷ t) word.0 in
      let whole : bytes ≡ said_bytes read = split 32 bytes ∙ ap (λ (t : List ℕ). identity ++ t) (split 8 first ∙ ap₂ (λ (n t : List ℕ). n ++ t) (sym number_again) (split 32 second ∙ ap (λ (t : List ℕ). image ++ t) of_word)) in
      let fits : FitsVisit read = record {
        identity = omega (arith, long, length-take 32 bytes);
        number = below_8 number (IsBytes-take 8 first are_first);
        image = omega (arith, long_second, length-take 32 second);
        from = are_third 0;
        word = word.1;
      } in
      subst (λ (x : Visit). (bytes ≡ said_bytes x) × FitsVisit x) found.2 (whole, fits)

-- ---- a visit

visit_by : (n : ℕ) (read : Option Visit) → n ≡ 153 → cond (not (eqb n 153)) None read ≡ read
visit_by n read e = subst (λ (m : ℕ). cond (not (eqb m 153)) None read ≡ read) (sym e) refl

visit_again : (v : Visit) → FitsVisit v → visit_of (visit_bytes v) ≡ Some v
unfolding visit_of
visit_again v fits =
    let front = to_be_bytes w64 (65536 * magic + version) in
    let said = said_bytes v in
    let all : length (visit_bytes v) ≡ 153 = omega (arith, length-append front said, said_length v fits) in
    visit_by (length (visit_bytes v)) _ all
    ∙ (ap₂ (λ (f s : List ℕ). cond (not (eqb (from_be_bytes w64 f) (65536 * magic + version))) None (said_of s)) (take_at front said 8 refl) (drop_at front said 8 refl)
    ∙ said_again v fits)

pub visit_only : (v : Visit) (bytes : List ℕ) → IsVisit v bytes → visit_of bytes ≡ Some v
visit_only v bytes is = ap visit_of is.0 ∙ visit_again v is.1

visit_found_by : (whole front : Bool) (bytes : List ℕ) (v : Visit) → IsBytes bytes → eqb (length bytes) 153 ≡ whole → eqb (from_be_bytes w64 (take 8 bytes)) (65536 * magic + version) ≡ front
    → cond (not whole) None (cond (not front) None (said_of (drop 8 bytes))) ≡ Some v → IsVisit v bytes
visit_found_by false front bytes v are a b e = absurd cc
visit_found_by true false bytes v are a b e = absurd cc
visit_found_by true true bytes v are a b e =
    let long : length bytes ≡ 153 = eqb-true (length bytes) 153 a in
    let first : from_be_bytes w64 (take 8 bytes) ≡ 65536 * magic + version = eqb-true (from_be_bytes w64 (take 8 bytes)) (65536 * magic + version) b in
    let found = said_found (drop 8 bytes) (IsBytes-drop 8 bytes are) (omega (arith, long, length-drop 8 bytes)) v e in
    let again : to_be_bytes w64 (from_be_bytes w64 (take 8 bytes)) ≡ take 8 bytes = again_8 (take 8 bytes) (IsBytes-take 8 bytes are) (omega (arith, long, length-take 8 bytes)) in
    (split 8 bytes ∙ ap₂ (λ (f s : List ℕ). f ++ s) (sym again ∙ ap (to_be_bytes w64) first) found.0, found.1)

visit_found : (bytes : List ℕ) (v : Visit) → IsBytes bytes → visit_of bytes ≡ Some v → IsVisit v bytes
unfolding visit_of
visit_found bytes v are e = visit_found_by (eqb (length bytes) 153) (eqb (from_be_bytes w64 (take 8 bytes)) (65536 * magic + version)) bytes v are refl refl e

-- the same of any answer
pub found_in : (bytes : List ℕ) (answer : Option Visit) → IsBytes bytes → answer ≡ visit_of bytes → IfSome answer (λ v. IsVisit v bytes)
found_in bytes (Some v) are is = visit_found bytes v are (sym is)
found_in bytes None are is = tt
