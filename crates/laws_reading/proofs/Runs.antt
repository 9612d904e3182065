-- Names in capital letters, and names under others: each is one token, or it's too long.
use Rattle.std.proofs.Common.{◌≡◌, ℕ, suc, ◌+◌, ◌-◌, ◌<◌, ◌≤◌, Bool, true, false, cond, List, [], ◌∷◌, ◌++◌, map, length, take, drop, refl, sym, ap, ◌∙◌, subst, arith, inl, inr}
use Rattle.std.specs.Prelude.{◌⊎◌, ◌&&◌, ◌||◌, ◌==◌, nat_le, nat_lt, if◌then◌else◌}
use Rattle.std.specs.List.{prefix_len, list_all}
use Rattle.std.proofs.lemmas.Bool.{leb-true, le-leb, eqb-true, ne_eqb, and_parts, and_from}
use Rattle.std.proofs.lemmas.List.{take_at}
use Rattle.il_values.specs.Spelled.{upper}
use Rattle.il_model.specs.Words.{is_well_spelled, name_parts, is_dot, under, onto_first, begins_with as begins_byte}
use Rattle.il_model.specs.declared.dialect.Dialect.TheVariants as dialects
use Rattle.il_reader.specs.declared.lexeme.Sign.{Sign}
use Rattle.il_reader.specs.declared.lexeme.Sign.TheVariants as signs
use Rattle.il_reader.specs.declared.fault.FaultKind.{FaultKind}
use Rattle.il_reader.specs.declared.fault.FaultKind.TheVariants.{TooLong}
use Rattle.il_reader.specs.Tokens.{broken, is_within, is_letter_byte, is_word_byte, begins_with, begins_letter, dotted_len, is_long, name_of, word_piece, piece_of}
use Rattle.laws_reading.specs.Words.{IsOneToken}
use Rattle.laws_reading.proofs.Names.{IsNameText, name_is_token, one_more, solid_is, more_name, dotted_on, no_hash}

-- ---- what is one token, or none

abbrev pub IsBroken : List ℕ → Type 0
IsBroken text = (rest : List ℕ) → (f : FaultKind) × (piece_of dialects.Extended (text ++ 32 ∷ rest) ≡ broken f)

-- a text that is one token, or no token at all
abbrev pub MayBe : List ℕ → Sign → Type 0
MayBe text s = IsOneToken text s ⊎ ((b : ℕ) × (bs : List ℕ) × (text ≡ b ∷ bs) × IsBroken text)

-- ---- bytes of one name, of any length

pub record IsRun (word : List ℕ) : Type 0 where
  pub first : ℕ
  pub others : List ℕ
  pub parts : word ≡ first ∷ others
  pub letter : is_letter_byte first ≡ true
  pub whole : dotted_len others ≡ length others
  pub spelled : list_all is_well_spelled (name_parts word) ≡ true

named_long : (w : List ℕ) → list_all is_well_spelled (name_parts w) ≡ true → is_long w ≡ true → name_of w ≡ broken TooLong
unfolding name_of
named_long w spelled long = rw (spelled, long) refl

word_long : (b : ℕ) (bs rest : List ℕ) → dotted_len bs ≡ length bs → list_all is_well_spelled (name_parts (b ∷ bs)) ≡ true → is_long (b ∷ bs) ≡ true
    → word_piece dialects.Extended (b ∷ bs ++ 32 ∷ rest) ≡ broken TooLong
unfolding word_piece
word_long b bs rest whole spelled long =
    let hash : begins_with 35 (drop (1 + prefix_len is_word_byte (bs ++ 32 ∷ rest)) (b ∷ bs ++ 32 ∷ rest)) ≡ false =
    ap (λ (n : ℕ). begins_with 35 (drop n (b ∷ bs ++ 32 ∷ rest))) (one_more (prefix_len is_word_byte (bs ++ 32 ∷ rest))) ∙ no_hash bs rest whole in
    let front : take (1 + dotted_len (bs ++ 32 ∷ rest)) (b ∷ bs ++ 32 ∷ rest) ≡ b ∷ bs =
    ap (λ (n : ℕ). take n (b ∷ bs ++ 32 ∷ rest)) (ap (λ (k : ℕ). 1 + k) (dotted_on bs rest whole) ∙ one_more (length bs))
    ∙ ap (λ (xs : List ℕ). b ∷ xs) (take_at bs (32 ∷ rest) (length bs) refl) in
    rw hash (ap name_of front ∙ named_long (b ∷ bs) spelled long)

long_broken : (b : ℕ) (bs : List ℕ) → is_letter_byte b ≡ true → dotted_len bs ≡ length bs → list_all is_well_spelled (name_parts (b ∷ bs)) ≡ true → is_long (b ∷ bs) ≡ true → IsBroken (b ∷ bs)
long_broken b bs letter whole spelled long = λ (rest : List ℕ). (TooLong, solid_is b (bs ++ 32 ∷ rest) letter ∙ word_long b bs rest whole spelled long)

pub run_may : (w : List ℕ) → IsRun w → MayBe w signs.Name
run_may w is = by_length (is_long w) refl
  where
    by_length : (b : Bool) → is_long w ≡ b → MayBe w signs.Name
    by_length false short = inl (name_is_token w (record { first = is.first; others = is.others; parts = is.parts; letter = is.letter; whole = is.whole; spelled = is.spelled; short = short }))
    by_length true long = inr (
      is.first,
      is.others,
      is.parts,
      subst IsBroken (sym is.parts) (long_broken is.first is.others is.letter is.whole
          (subst (λ (v : List ℕ). list_all is_well_spelled (name_parts v) ≡ true) is.parts is.spelled) (subst (λ (v : List ℕ). is_long v ≡ true) is.parts long)),
    )

pub text_run : (w : List ℕ) → IsNameText w → IsRun w
text_run w is = record { first = is.first; others = is.others; parts = is.parts; letter = is.letter; whole = is.whole; spelled = is.spelled }

-- ---- in capital letters

up_by : (p : ℕ → Bool) → ((n : ℕ) → 97 ≤ n → n ≤ 122 → p (n - 32) ≡ p n) → (b : ℕ) (c : Bool) → (nat_le 97 b && nat_le b 122) ≡ c → p (if c then b - 32 else b) ≡ p b
up_by p same b true e = let h = and_parts (nat_le 97 b) (nat_le b 122) e in same b (leb-true 97 b h.0) (leb-true b 122 h.1)
up_by p same b false e = refl

up_same : (p : ℕ → Bool) → ((n : ℕ) → 97 ≤ n → n ≤ 122 → p (n - 32) ≡ p n) → (b : ℕ) → p (upper b) ≡ p b
up_same p same b = up_by p same b (nat_le 97 b && nat_le b 122) refl

big_letter : (n : ℕ) → 65 ≤ n → n ≤ 90 → is_letter_byte n ≡ true
big_letter n low high = let e : is_within 65 90 n ≡ true = and_from (nat_le 65 n) (nat_le n 90) (le-leb 65 n low) (le-leb n 90 high) in rw e refl

small_by : (p q r : Bool) → q ≡ true → ((p || q) || r) ≡ true
small_by true q r e = refl
small_by false true r e = refl
small_by false false r e = absurd cc

small_letter : (n : ℕ) → 97 ≤ n → n ≤ 122 → is_letter_byte n ≡ true
small_letter n low high = small_by (is_within 65 90 n) (is_within 97 122 n) (n == 95) (and_from (nat_le 97 n) (nat_le n 122) (le-leb 97 n low) (le-leb n 122 high))

letter_same : (n : ℕ) → 97 ≤ n → n ≤ 122 → is_letter_byte (n - 32) ≡ is_letter_byte n
letter_same n low high = big_letter (n - 32) (omega (arith, low)) (omega (arith, high, low)) ∙ sym (small_letter n low high)

word_letter : (n : ℕ) → is_letter_byte n ≡ true → is_word_byte n ≡ true
word_letter n is = rw is refl

word_same : (n : ℕ) → 97 ≤ n → n ≤ 122 → is_word_byte (n - 32) ≡ is_word_byte n
word_same n low high = word_letter (n - 32) (big_letter (n - 32) (omega (arith, low)) (omega (arith, high, low))) ∙ sym (word_letter n (small_letter n low high))

other_same : (k n : ℕ) → k < 65 → 97 ≤ n → (n - 32 == k) ≡ (n == k)
other_same k n less low = ne_eqb (n - 32) k (λ (e : n - 32 ≡ k). omega (arith, e, less, low)) ∙ sym (ne_eqb n k (λ (e : n ≡ k). omega (arith, e, less, low)))

under_same : (n : ℕ) → 97 ≤ n → n ≤ 122 → (n - 32 == 95) ≡ (n == 95)
under_same n low high = ne_eqb (n - 32) 95 (λ (e : n - 32 ≡ 95). omega (arith, e, low, high)) ∙ sym (ne_eqb n 95 (λ (e : n ≡ 95). omega (arith, e, low)))

letter_up : (b : ℕ) → is_letter_byte (upper b) ≡ is_letter_byte b
letter_up b = up_same is_letter_byte letter_same b

word_up : (b : ℕ) → is_word_byte (upper b) ≡ is_word_byte b
word_up b = up_same is_word_byte word_same b

dot_up : (b : ℕ) → (upper b == 46) ≡ (b == 46)
dot_up b = up_same (λ (n : ℕ). n == 46) (λ (n : ℕ) (low : 97 ≤ n) (high : n ≤ 122). other_same 46 n (omega arith) low) b

line_up : (b : ℕ) → (upper b == 95) ≡ (b == 95)
line_up b = up_same (λ (n : ℕ). n == 95) under_same b

capital : List ℕ → List ℕ
capital w = map upper w

begins_up : (bs : List ℕ) → begins_letter (map upper bs) ≡ begins_letter bs
begins_up [] = refl
begins_up (b ∷ bs) = letter_up b

length_up : (bs : List ℕ) → length (map upper bs) ≡ length bs
length_up [] = refl
length_up (b ∷ bs) = ap suc (length_up bs)

abbrev goes_by : Bool → Bool → Bool → Bool
goes_by w d x = w || (d && x)

goes_up : (b : ℕ) (bs : List ℕ) → goes_by (is_word_byte (upper b)) (upper b == 46) (begins_letter (map upper bs)) ≡ goes_by (is_word_byte b) (b == 46) (begins_letter bs)
goes_up b bs =
    ap (λ (x : Bool). goes_by x (upper b == 46) (begins_letter (map upper bs))) (word_up b)
    ∙ ap (λ (x : Bool). goes_by (is_word_byte b) x (begins_letter (map upper bs))) (dot_up b)
    ∙ ap (λ (x : Bool). goes_by (is_word_byte b) (b == 46) x) (begins_up bs)

dotted_up : (bs : List ℕ) → dotted_len (map upper bs) ≡ dotted_len bs
unfolding dotted_len
dotted_up [] = refl
dotted_up (b ∷ bs) =
    ap (λ (x : Bool). if x then suc (dotted_len (map upper bs)) else 0) (goes_up b bs)
    ∙ ap (λ (n : ℕ). if goes_by (is_word_byte b) (b == 46) (begins_letter bs) then suc n else 0) (dotted_up bs)

onto_up : (b : ℕ) (ps : List (List ℕ)) → onto_first (upper b) (map (λ (p : List ℕ). map upper p) ps) ≡ map (λ (p : List ℕ). map upper p) (onto_first b ps)
onto_up b [] = refl
onto_up b (p ∷ ps) = refl

parts_by : (d e : Bool) (b : ℕ) (ps qs : List (List ℕ)) → d ≡ e → qs ≡ map (λ (p : List ℕ). map upper p) ps
    → (if d then [] ∷ qs else onto_first (upper b) qs) ≡ map (λ (p : List ℕ). map upper p) (if e then [] ∷ ps else onto_first b ps)
parts_by true true b ps qs same more = ap (λ (xs : List (List ℕ)). [] ∷ xs) more
parts_by false false b ps qs same more = ap (onto_first (upper b)) more ∙ onto_up b ps
parts_by true false b ps qs same more = absurd cc
parts_by false true b ps qs same more = absurd cc

parts_up : (w : List ℕ) → name_parts (map upper w) ≡ map (λ (p : List ℕ). map upper p) (name_parts w)
unfolding name_parts
parts_up [] = refl
parts_up (b ∷ bs) = parts_by (upper b == 46) (b == 46) b (name_parts bs) (name_parts (map upper bs)) (dot_up b) (parts_up bs)

byte_up : (bs : List ℕ) → begins_byte 95 (map upper bs) ≡ begins_byte 95 bs
byte_up [] = refl
byte_up (b ∷ bs) = line_up b

abbrev well_by : Bool → Bool → ℕ → Bool → Bool
well_by l x n more = (if l then (if x then false else nat_lt 0 n) else true) && more

spelled_up : (w : List ℕ) → is_well_spelled (map upper w) ≡ is_well_spelled w
unfolding is_well_spelled
spelled_up [] = refl
spelled_up (b ∷ bs) =
    ap (λ (l : Bool). well_by l (begins_byte 95 (map upper bs)) (length (map upper bs)) (is_well_spelled (map upper bs))) (line_up b)
    ∙ ap (λ (x : Bool). well_by (b == 95) x (length (map upper bs)) (is_well_spelled (map upper bs))) (byte_up bs)
    ∙ ap (λ (n : ℕ). well_by (b == 95) (begins_byte 95 bs) n (is_well_spelled (map upper bs))) (length_up bs)
    ∙ ap (λ (x : Bool). well_by (b == 95) (begins_byte 95 bs) (length bs) x) (spelled_up bs)

all_up : (ps : List (List ℕ)) → list_all is_well_spelled (map (λ (p : List ℕ). map upper p) ps) ≡ list_all is_well_spelled ps
all_up [] = refl
all_up (p ∷ ps) = ap (λ (x : Bool). x && list_all is_well_spelled (map (λ (q : List ℕ). map upper q) ps)) (spelled_up p) ∙ ap (λ (x : Bool). is_well_spelled p && x) (all_up ps)

pub run_up : (w : List ℕ) → IsRun w → IsRun (map upper w)
run_up w is = record {
  first = upper is.first;
  others = map upper is.others;
  parts = ap (λ (v : List ℕ). map upper v) is.parts;
  letter = letter_up is.first ∙ is.letter;
  whole = dotted_up is.others ∙ is.whole ∙ sym (length_up is.others);
  spelled = ap (list_all is_well_spelled) (parts_up w) ∙ all_up (name_parts w) ∙ is.spelled;
}

-- ---- under another

parts_some : (w : List ℕ) → 0 < length (name_parts w)
unfolding name_parts
parts_some [] = omega arith
parts_some (b ∷ bs) = by_dot (is_dot b)
  where
    onto_some : (ps : List (List ℕ)) → 0 < length (onto_first b ps)
    onto_some [] = omega arith
    onto_some (p ∷ ps) = omega arith

    by_dot : (d : Bool) → 0 < length (cond d ([] ∷ name_parts bs) (onto_first b (name_parts bs)))
    by_dot true = omega arith
    by_dot false = onto_some (name_parts bs)

onto_append : (b : ℕ) (ps qs : List (List ℕ)) → 0 < length ps → onto_first b (ps ++ qs) ≡ onto_first b ps ++ qs
onto_append b [] qs some = absurd (omega (arith, some))
onto_append b (p ∷ ps) qs some = refl

under_parts : (front last : List ℕ) → name_parts (under front last) ≡ name_parts front ++ name_parts last
unfolding name_parts
under_parts [] last = refl
under_parts (b ∷ bs) last = by_dot (is_dot b) (under_parts bs last)
  where
    by_dot : (d : Bool) → name_parts (under bs last) ≡ name_parts bs ++ name_parts last
        → cond d ([] ∷ name_parts (under bs last)) (onto_first b (name_parts (under bs last))) ≡ cond d ([] ∷ name_parts bs) (onto_first b (name_parts bs)) ++ name_parts last
    by_dot true h = ap (λ (ps : List (List ℕ)). [] ∷ ps) h
    by_dot false h = ap (onto_first b) h ∙ onto_append b (name_parts bs) (name_parts last) (parts_some bs)

all_both : (p : List ℕ → Bool) (xs ys : List (List ℕ)) → list_all p xs ≡ true → list_all p ys ≡ true → list_all p (xs ++ ys) ≡ true
all_both p [] ys a b = b
all_both p (x ∷ xs) ys a b = let h = and_parts (p x) (list_all p xs) a in and_from (p x) (list_all p (xs ++ ys)) h.0 (all_both p xs ys h.1 b)

begins_under : (bs w : List ℕ) → begins_letter (bs ++ 46 ∷ w) ≡ begins_letter bs
begins_under [] w = refl
begins_under (b ∷ bs) w = refl

dotted_first : (b : ℕ) (bs : List ℕ) → is_letter_byte b ≡ true → dotted_len bs ≡ length bs → dotted_len (b ∷ bs) ≡ length (b ∷ bs)
unfolding dotted_len
dotted_first b bs letter whole = let word : is_word_byte b ≡ true = word_letter b letter in rw word (ap suc whole)

dotted_dot : (w : List ℕ) → begins_letter w ≡ true → dotted_len (46 ∷ w) ≡ suc (dotted_len w)
unfolding dotted_len
dotted_dot w letter = rw letter refl

dotted_under : (bs w : List ℕ) → dotted_len bs ≡ length bs → begins_letter w ≡ true → dotted_len w ≡ length w → dotted_len (bs ++ 46 ∷ w) ≡ length (bs ++ 46 ∷ w)
unfolding dotted_len
dotted_under [] w e letter whole = dotted_dot w letter ∙ ap suc whole
dotted_under (b ∷ bs) w e letter whole =
    let m = more_name b bs e in
    ap (λ (x : Bool). if goes_by (is_word_byte b) (b == 46) x then suc (dotted_len (bs ++ 46 ∷ w)) else 0) (begins_under bs w)
    ∙ ap (λ (x : Bool). if x then suc (dotted_len (bs ++ 46 ∷ w)) else 0) m.0
    ∙ ap suc (dotted_under bs w m.1 letter whole)

run_begins : (w : List ℕ) → IsRun w → begins_letter w ≡ true
run_begins w is = ap begins_letter is.parts ∙ is.letter

run_whole : (w : List ℕ) → IsRun w → dotted_len w ≡ length w
run_whole w is = ap dotted_len is.parts ∙ dotted_first is.first is.others is.letter is.whole ∙ ap (λ (v : List ℕ). length v) (sym is.parts)

pub run_under : (front w : List ℕ) → IsRun front → IsRun w → IsRun (under front w)
run_under front w a b = record {
  first = a.first;
  others = a.others ++ 46 ∷ w;
  parts = ap (λ (v : List ℕ). v ++ 46 ∷ w) a.parts;
  letter = a.letter;
  whole = dotted_under a.others w a.whole (run_begins w b) (run_whole w b);
  spelled = ap (list_all is_well_spelled) (under_parts front w) ∙ all_both is_well_spelled (name_parts front) (name_parts w) a.spelled b.spelled;
}

-- ---- a word of letters, digits and underscores

plain_on : (bs : List ℕ) → list_all is_word_byte bs ≡ true → dotted_len bs ≡ length bs
unfolding dotted_len
plain_on [] all = refl
plain_on (b ∷ bs) all = let h = and_parts (is_word_byte b) (list_all is_word_byte bs) all in rw h.0 (ap suc (plain_on bs h.1))

no_dot : (b : ℕ) → is_word_byte b ≡ true → is_dot b ≡ false
no_dot b is = by_test (is_dot b) refl
  where
    by_test : (c : Bool) → is_dot b ≡ c → c ≡ false
    by_test false e = refl
    by_test true e = let clash : true ≡ false = sym is ∙ ap is_word_byte (eqb-true b 46 e) in absurd cc

plain_parts : (w : List ℕ) → list_all is_word_byte w ≡ true → name_parts w ≡ w ∷ []
unfolding name_parts
plain_parts [] all = refl
plain_parts (b ∷ bs) all = let h = and_parts (is_word_byte b) (list_all is_word_byte bs) all in rw (no_dot b h.0) (ap (onto_first b) (plain_parts bs h.1))

pub plain_run : (b : ℕ) (bs : List ℕ) → is_letter_byte b ≡ true → list_all is_word_byte bs ≡ true → is_well_spelled (b ∷ bs) ≡ true → IsRun (b ∷ bs)
plain_run b bs letter all spelled = record {
  first = b;
  others = bs;
  parts = refl;
  letter = letter;
  whole = plain_on bs all;
  spelled = ap (list_all is_well_spelled) (plain_parts (b ∷ bs) (and_from (is_word_byte b) (list_all is_word_byte bs) (word_letter b letter) all)) ∙ and_from (is_well_spelled (b ∷ bs)) true spelled refl;
}
