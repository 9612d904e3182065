-- A name in capital letters is a lawful one, where it is not reserved.
use Rattle.std.proofs.Common.{◌≡◌, ℕ, ◌-◌, ◌<◌, ◌≤◌, Bool, true, false, cond, eqb, leb, List, [], ◌∷◌, map, length, refl, sym, ap, subst, ◌∙◌, arith, ◌&&◌, ◌||◌}
use Rattle.std.specs.List.{AllByRecursion, list_all, list_any}
use Rattle.std.proofs.lemmas.Bool.{leb-true, le-leb, ne_eqb}
use Rattle.std.proofs.Math.ListN.{length-map}
use Rattle.il_model.specs.Words.{is_first_byte, is_name_byte, begins_name, begins_with, is_well_spelled, is_reserved}
use Rattle.il_model.specs.declared.dialect.Dialect.{Dialect}
use Rattle.il_model.specs.declared.dialect.Dialect.TheVariants as dialects
use Rattle.il_model.specs.Words.{is_lawful_name, is_dot, has_dot, onto_first, name_parts, is_part}
use Rattle.il_values.specs.Spelled.{upper}
use Rattle.il_reader.specs.Tokens.{is_letter_byte, is_word_byte, is_within, begins_letter}
use Rattle.il_reader.specs.Words.{IsWordText, IsNameText}
use Rattle.il_reader.proofs.NameRuns.{or_left, or_right, plain_parts}
use Rattle.il_declarations.specs.Resolution.{capitals}

and_true : (a b : Bool) → (a && b) ≡ true → (a ≡ true) × (b ≡ true)
and_true true b e = (refl, e)
and_true false b e = absurd cc

within : (low high b : ℕ) → is_within low high b ≡ true → (low ≤ b) × (b ≤ high)
within low high b e =
    let both = and_true (leb low b) (leb b high) e in
    (leb-true low b both.0, leb-true b high both.1)

is_inside : (low high b : ℕ) → low ≤ b → b ≤ high → is_within low high b ≡ true
is_inside low high b l h = rw (le-leb low b l, le-leb b high h) refl

upper_small : (b : ℕ) → is_within 97 122 b ≡ true → upper b ≡ b - 32
upper_small b e = rw e refl

upper_other : (b : ℕ) → is_within 97 122 b ≡ false → upper b ≡ b
upper_other b e = rw e refl

letter_first : (b : ℕ) → is_letter_byte b ≡ true → is_first_byte (upper b) ≡ true
letter_first b is = chosen (is_within 97 122 b) refl
  where
    rest : (a c : Bool) → ((a || false) || c) ≡ true → (a || c) ≡ true
    rest true c e = refl
    rest false c e = e

    chosen : (t : Bool) → is_within 97 122 b ≡ t → is_first_byte (upper b) ≡ true
    chosen true small =
        let w = within 97 122 b small in
        let l : 65 ≤ b - 32 = omega (arith, w.0) in
        let h : b - 32 ≤ 90 = omega (arith, w.1) in
        rw (upper_small b small, le-leb 65 (b - 32) l, le-leb (b - 32) 90 h) refl
    chosen false other = rw (upper_other b other) (rest (is_within 65 90 b) (eqb b 95) (rw other at is))

digit_upper : (b : ℕ) → is_within 48 57 b ≡ true → is_name_byte (upper b) ≡ true
digit_upper b is =
    let w = within 48 57 b is in
    let large : leb 97 b ≡ false = below (leb 97 b) refl in
    let same : is_within 97 122 b ≡ false = rw large refl in
    rw (upper_other b same) (rw is (either (is_first_byte b)))
  where
    either : (a : Bool) → (a || true) ≡ true
    either true = refl
    either false = refl

    below : (t : Bool) → leb 97 b ≡ t → leb 97 b ≡ false
    below true e = let w = within 48 57 b is in absurd (omega (arith, leb-true 97 b e, w.1))
    below false e = e

word_name : (b : ℕ) → is_word_byte b ≡ true → is_name_byte (upper b) ≡ true
word_name b is = chosen (is_letter_byte b) refl
  where
    chosen : (t : Bool) → is_letter_byte b ≡ t → is_name_byte (upper b) ≡ true
    chosen true letter = rw (letter_first b letter) refl
    chosen false other = digit_upper b (rw other at is)

underscore : (b : ℕ) → eqb (upper b) 95 ≡ eqb b 95
underscore b = chosen (is_within 97 122 b) refl
  where
    chosen : (t : Bool) → is_within 97 122 b ≡ t → eqb (upper b) 95 ≡ eqb b 95
    chosen true small =
        let w = within 97 122 b small in
        let a : eqb (b - 32) 95 ≡ false = ne_eqb (b - 32) 95 (λ e. omega (arith, e, w.1)) in
        let c : eqb b 95 ≡ false = ne_eqb b 95 (λ e. omega (arith, e, w.0)) in
        rw (upper_small b small, a, c) refl
    chosen false other = rw (upper_other b other) refl

begins-capitals : (bs : List ℕ) → begins_with 95 (capitals bs) ≡ begins_with 95 bs
begins-capitals [] = refl
begins-capitals (b ∷ bs) = underscore b

spelled-capitals : (w : List ℕ) → is_well_spelled (capitals w) ≡ is_well_spelled w
unfolding is_well_spelled
spelled-capitals [] = refl
spelled-capitals (b ∷ bs) = rw (underscore b, begins-capitals bs, length-map bs upper, spelled-capitals bs) refl

names_all : (w : List ℕ) → list_all is_word_byte w ≡ true → list_all is_name_byte (capitals w) ≡ true
names_all [] e = refl
names_all (b ∷ bs) e =
    let both = and_true (is_word_byte b) (list_all is_word_byte bs) e in
    rw (word_name b both.0, names_all bs both.1) refl

begins_all : (w : List ℕ) → begins_letter w ≡ true → begins_name (capitals w) ≡ true
begins_all [] e = absurd cc
begins_all (b ∷ bs) e = letter_first b e

-- ---- names with dots

dot_kept : (b : ℕ) → is_dot (upper b) ≡ is_dot b
dot_kept b = chosen (is_within 97 122 b) refl
  where
    chosen : (t : Bool) → is_within 97 122 b ≡ t → eqb (upper b) 46 ≡ eqb b 46
    chosen true small =
        let w = within 97 122 b small in
        let a : eqb (b - 32) 46 ≡ false = ne_eqb (b - 32) 46 (λ e. omega (arith, e, w.0)) in
        let c : eqb b 46 ≡ false = ne_eqb b 46 (λ e. omega (arith, e, w.0)) in
        rw (upper_small b small, a, c) refl
    chosen false other = rw (upper_other b other) refl

onto_kept : (b : ℕ) (ps : List (List ℕ)) → onto_first (upper b) (map capitals ps) ≡ map capitals (onto_first b ps)
onto_kept b [] = refl
onto_kept b (p ∷ ps) = refl

-- the parts of a name in capital letters are its parts in capital letters
parts_kept : (w : List ℕ) → name_parts (capitals w) ≡ map capitals (name_parts w)
unfolding name_parts
parts_kept [] = refl
parts_kept (b ∷ bs) = rw (dot_kept b, parts_kept bs) (by_test (is_dot b))
  where
    by_test : (c : Bool) → cond c ([] ∷ map capitals (name_parts bs)) (onto_first (upper b) (map capitals (name_parts bs))) ≡ map capitals (cond c ([] ∷ name_parts bs) (onto_first b (name_parts bs)))
    by_test true = refl
    by_test false = onto_kept b (name_parts bs)

word_part : (w : List ℕ) → IsWordText w → is_part (capitals w) ≡ true
word_part w is =
    let short : leb (length (capitals w)) 32 ≡ true = le-leb (length (capitals w)) 32 (let e = length-map w upper in let le = is.short in omega (arith, e, le)) in
    rw (begins_all w is.begins, names_all w is.bytes, spelled-capitals w, is.spelled, short) refl

all_parts : (ps : List (List ℕ)) → AllByRecursion IsWordText ps → list_all is_part (map capitals ps) ≡ true
all_parts [] all = refl
all_parts (p ∷ ps) all = rw (word_part p all.0, all_parts ps all.1) refl

name_words : (dialect : Dialect) (w : List ℕ) → IsNameText dialect w → AllByRecursion IsWordText (name_parts w)
name_words dialects.Plain w is = subst (λ (ps : List (List ℕ)). AllByRecursion IsWordText ps) (sym (plain_parts w is.bytes)) (is, tt)
name_words dialects.Extended w is = is.0

one_alone : (v : List ℕ) → has_dot v ≡ false → name_parts v ≡ v ∷ []
unfolding name_parts
one_alone [] e = refl
one_alone (b ∷ bs) e = rw (or_left (is_dot b) (list_any is_dot bs) e) (ap (onto_first b) (one_alone bs (or_right (is_dot b) (list_any is_dot bs) e)))

pub capitals_lawful : (dialect : Dialect) (w : List ℕ) → IsNameText dialect w → is_reserved (capitals w) ≡ false → is_lawful_name (capitals w) ≡ true
capitals_lawful dialect w is free = by_dot (has_dot (capitals w)) refl
  where
    parts : list_all is_part (name_parts (capitals w)) ≡ true
    parts = ap (list_all is_part) (parts_kept w) ∙ all_parts (name_parts w) (name_words dialect w is)

    by_dot : (d : Bool) → has_dot (capitals w) ≡ d → is_lawful_name (capitals w) ≡ true
    by_dot true e = rw e parts
    by_dot false e =
        let alone : is_part (capitals w) ≡ true = (and_true (is_part (capitals w)) true (ap (list_all is_part) (sym (one_alone (capitals w) e)) ∙ parts)).0 in
        rw (e, alone, free) refl

some_name : (w : List ℕ) → AllByRecursion IsWordText (name_parts w) → 0 < length w
unfolding name_parts
some_name [] all = absurd (let some = all.0.some in omega (arith, some))
some_name (b ∷ bs) all = omega arith

pub capitals_length : (dialect : Dialect) (w : List ℕ) → IsNameText dialect w → (0 < length (capitals w)) × (length (capitals w) ≤ 96)
capitals_length dialect w is =
    let e = length-map w upper in
    let some = some_name w (name_words dialect w is) in
    let short = name_short dialect w is in
    (omega (arith, e, some), omega (arith, e, short))
  where
    name_short : (dialect : Dialect) (w : List ℕ) → IsNameText dialect w → length w ≤ 96
    name_short dialects.Plain w is = let le = is.short in omega (arith, le)
    name_short dialects.Extended w is = is.1
