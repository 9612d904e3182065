-- The names of a text, part by part.
use Rattle.std.proofs.Common.{◌≡◌, ℕ, suc, ◌<◌, Bool, true, false, cond, List, [], ◌∷◌, take, length, refl, sym, ap, ◌∙◌, arith, ◌&&◌, ◌||◌}
use Rattle.std.specs.Prelude.{nat_lt}
use Rattle.std.specs.List.{AllByRecursion, list_all, list_any}
use Rattle.std.proofs.lemmas.Bool.{eqb-true, ltb-false}
use Rattle.il_model.specs.Words.{is_well_spelled, is_dot, onto_first, name_parts}
use Rattle.il_reader.specs.Tokens.{is_letter_byte, is_word_byte, begins_letter, dotted_len}
use Rattle.il_reader.specs.Words.{IsWordText}

and_left : (a b : Bool) → (a && b) ≡ true → a ≡ true
and_left true b e = refl
and_left false b e = absurd cc

and_right : (a b : Bool) → (a && b) ≡ true → b ≡ true
and_right true b e = e
and_right false b e = absurd cc

pub or_left : (a b : Bool) → (a || b) ≡ false → a ≡ false
or_left true b e = absurd cc
or_left false b e = refl

pub or_right : (a b : Bool) → (a || b) ≡ false → b ≡ false
or_right true b e = absurd cc
or_right false b e = e

-- ---- dots

word_is : (b : ℕ) → is_letter_byte b ≡ true → is_word_byte b ≡ true
word_is b is = rw is refl

no_dot : (b : ℕ) → is_word_byte b ≡ true → is_dot b ≡ false
no_dot b is = by_test (is_dot b) refl
  where
    by_test : (c : Bool) → is_dot b ≡ c → c ≡ false
    by_test false e = refl
    by_test true e = let clash : true ≡ false = sym is ∙ ap is_word_byte (eqb-true b 46 e) in absurd cc

-- a name without dots is its only part
pub plain_parts : (w : List ℕ) → list_all is_word_byte w ≡ true → name_parts w ≡ w ∷ []
unfolding name_parts
plain_parts [] all = refl
plain_parts (b ∷ bs) all = rw (no_dot b (and_left (is_word_byte b) _ all)) (ap (onto_first b) (plain_parts bs (and_right (is_word_byte b) _ all)))

-- ---- bytes that a name may have: each dot stands before a letter

abbrev is_run : List ℕ → Bool
is_run [] = true
is_run (b ∷ bs) = (is_word_byte b || (is_dot b && begins_letter bs)) && is_run bs

letter_taken : (bs : List ℕ) → begins_letter bs ≡ true → begins_letter (take (dotted_len bs) bs) ≡ true
unfolding dotted_len
letter_taken [] e = absurd cc
letter_taken (c ∷ cs) e = rw (word_is c e) e

kept : (w d x y : Bool) → (w || (d && x)) ≡ true → (x ≡ true → y ≡ true) → (w || (d && y)) ≡ true
kept true d x y e f = refl
kept false true x y e f = f e
kept false false x y e f = absurd cc

run_taken : (bs : List ℕ) → is_run (take (dotted_len bs) bs) ≡ true
unfolding dotted_len
run_taken [] = refl
run_taken (b ∷ bs) = by_test (is_word_byte b || (is_dot b && begins_letter bs)) refl (run_taken bs)
  where
    by_test : (c : Bool) → (is_word_byte b || (is_dot b && begins_letter bs)) ≡ c → is_run (take (dotted_len bs) bs) ≡ true → is_run (take (cond c (suc (dotted_len bs)) 0) (b ∷ bs)) ≡ true
    by_test true e again = rw (kept (is_word_byte b) (is_dot b) (begins_letter bs) (begins_letter (take (dotted_len bs) bs)) e (letter_taken bs)) again
    by_test false e again = refl

-- ---- its parts

record IsPart (w : List ℕ) : Type 0 where
  begins : begins_letter w ≡ true
  bytes : list_all is_word_byte w ≡ true

-- the first of them may begin otherwise
abbrev AreRest : List (List ℕ) → Type 0
AreRest [] = Unit {0}
AreRest (p ∷ ps) = (list_all is_word_byte p ≡ true) × AllByRecursion IsPart ps

rest_onto : (b : ℕ) (ps : List (List ℕ)) → is_word_byte b ≡ true → AreRest ps → AreRest (onto_first b ps)
rest_onto b [] is rest = (rw is refl, tt)
rest_onto b (p ∷ ps) is rest = (rw is rest.0, rest.1)

front_letter : (c : ℕ) (ps : List (List ℕ)) → is_letter_byte c ≡ true → AreRest (onto_first c ps) → AllByRecursion IsPart (onto_first c ps)
front_letter c [] is rest = (record { begins = is; bytes = rest.0 }, tt)
front_letter c (p ∷ ps) is rest = (record { begins = is; bytes = rest.0 }, rest.1)

-- all of them, where the first begins with a letter
whole_parts : (bs : List ℕ) → begins_letter bs ≡ true → AreRest (name_parts bs) → AllByRecursion IsPart (name_parts bs)
unfolding name_parts
whole_parts [] e rest = absurd cc
whole_parts (c ∷ cs) e rest = by_dot (is_dot c) (no_dot c (word_is c e)) rest
  where
    by_dot : (d : Bool) → d ≡ false → AreRest (cond d ([] ∷ name_parts cs) (onto_first c (name_parts cs))) → AllByRecursion IsPart (cond d ([] ∷ name_parts cs) (onto_first c (name_parts cs)))
    by_dot true is h = absurd cc
    by_dot false is h = front_letter c (name_parts cs) e h

-- what stands behind a byte of a run that is no dot, or is one
by_byte : (w x : Bool) → (w || (true && x)) ≡ true → w ≡ false → x ≡ true
by_byte true x e other = absurd cc
by_byte false x e other = e

by_other : (w x : Bool) → (w || (false && x)) ≡ true → w ≡ true
by_other true x e = refl
by_other false x e = absurd cc

dot_no_word : (b : ℕ) → is_dot b ≡ true → is_word_byte b ≡ false
dot_no_word b is = ap is_word_byte (eqb-true b 46 is)

rest_parts : (bs : List ℕ) → is_run bs ≡ true → AreRest (name_parts bs)
unfolding name_parts
rest_parts [] e = (refl, tt)
rest_parts (b ∷ bs) e = by_dot (is_dot b) refl (and_left (is_word_byte b || (is_dot b && begins_letter bs)) (is_run bs) e) (rest_parts bs (and_right (is_word_byte b || (is_dot b && begins_letter bs)) (is_run bs) e))
  where
    by_dot : (d : Bool) → is_dot b ≡ d → (is_word_byte b || (d && begins_letter bs)) ≡ true → AreRest (name_parts bs) → AreRest (cond d ([] ∷ name_parts bs) (onto_first b (name_parts bs)))
    by_dot true is h again = (refl, whole_parts bs (by_byte (is_word_byte b) (begins_letter bs) h (dot_no_word b is)) again)
    by_dot false is h again = rest_onto b (name_parts bs) (by_other (is_word_byte b) (begins_letter bs) h) again

run_parts : (b : ℕ) (bs : List ℕ) → is_letter_byte b ≡ true → AllByRecursion IsPart (name_parts (b ∷ take (dotted_len bs) bs))
run_parts b bs is =
    let run : is_run (b ∷ take (dotted_len bs) bs) ≡ true = rw (word_is b is) (run_taken bs) in
    whole_parts (b ∷ take (dotted_len bs) bs) is (rest_parts (b ∷ take (dotted_len bs) bs) run)

-- ---- the parts of a name that is spelled well and short enough

some_letter : (w : List ℕ) → begins_letter w ≡ true → 0 < length w
some_letter [] e = absurd cc
some_letter (b ∷ bs) e = omega arith

all_words : (ps : List (List ℕ)) → AllByRecursion IsPart ps → list_all is_well_spelled ps ≡ true → list_any (λ part. nat_lt 32 (length part)) ps ≡ false → AllByRecursion IsWordText ps
all_words [] parts well short = tt
all_words (p ∷ ps) parts well short = (
  record {
    begins = parts.0.begins;
    bytes = parts.0.bytes;
    spelled = and_left (is_well_spelled p) (list_all is_well_spelled ps) well;
    some = some_letter p parts.0.begins;
    short = ltb-false 32 (length p) (or_left (nat_lt 32 (length p)) (list_any (λ part. nat_lt 32 (length part)) ps) short);
  },
  all_words ps parts.1 (and_right (is_well_spelled p) (list_all is_well_spelled ps) well) (or_right (nat_lt 32 (length p)) (list_any (λ part. nat_lt 32 (length part)) ps) short),
)

pub dotted_words : (b : ℕ) (bs : List ℕ) → is_letter_byte b ≡ true → let w = b ∷ take (dotted_len bs) bs in
    list_all is_well_spelled (name_parts w) ≡ true → list_any (λ part. nat_lt 32 (length part)) (name_parts w) ≡ false → AllByRecursion IsWordText (name_parts w)
dotted_words b bs is well short = all_words (name_parts (b ∷ take (dotted_len bs) bs)) (run_parts b bs is) well short

pub plain_word : (w : List ℕ) → begins_letter w ≡ true → list_all is_word_byte w ≡ true
    → list_all is_well_spelled (name_parts w) ≡ true → list_any (λ part. nat_lt 32 (length part)) (name_parts w) ≡ false → IsWordText w
plain_word w begins all well short =
    let e = plain_parts w all in
    let words = all_words (w ∷ []) (record { begins = begins; bytes = all }, tt) (ap (list_all is_well_spelled) (sym e) ∙ well) (ap (list_any (λ part. nat_lt 32 (length part))) (sym e) ∙ short) in
    words.0
