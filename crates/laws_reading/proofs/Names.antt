-- Names that are one token, wherever a blank stands behind them.
use Rattle.std.proofs.Common.{◌≡◌, ℕ, suc, ◌+◌, ◌≤◌, Bool, true, false, List, [], ◌∷◌, ◌++◌, length, take, drop, Some, refl, sym, ap, ◌∙◌, subst, arith}
use Rattle.std.specs.Prelude.{◌&&◌, ◌||◌, ◌==◌, nat_le, if◌then◌else◌}
use Rattle.std.specs.List.{prefix_len, list_all}
use Rattle.std.proofs.lemmas.Bool.{leb-true, eqb-true, ne_eqb, and_parts}
use Rattle.std.proofs.lemmas.List.{take_at}
use Rattle.il_model.specs.Words.{is_well_spelled, name_parts}
use Rattle.il_model.specs.declared.dialect.Dialect.TheVariants as dialects
use Rattle.il_reader.specs.declared.lexeme.Sign.{Sign}
use Rattle.il_reader.specs.declared.lexeme.Sign.TheVariants as signs
use Rattle.il_reader.specs.declared.lexeme.Class.TheVariants as classes
use Rattle.il_reader.specs.Tokens.{sign, is_within, is_letter_byte, is_word_byte, begins_with, begins_letter, dotted_len, is_long, name_of, word_piece, solid_piece, piece_of}
use Rattle.laws_reading.specs.Words.{IsOneToken}

-- bytes of one name: it begins with a letter, all of them belong to it, each part is spelled well, and none is too long
pub record IsNameText (word : List ℕ) : Type 0 where
  pub first : ℕ
  pub others : List ℕ
  pub parts : word ≡ first ∷ others
  pub letter : is_letter_byte first ≡ true
  pub whole : dotted_len others ≡ length others
  pub spelled : list_all is_well_spelled (name_parts word) ≡ true
  pub short : is_long word ≡ false

one_token : (b : ℕ) (bs : List ℕ) (s : Sign) → ((rest : List ℕ) → piece_of dialects.Extended (b ∷ bs ++ 32 ∷ rest) ≡ record { class = Some (classes.Sign s); len = length (b ∷ bs) }) → IsOneToken (b ∷ bs) s
one_token b bs s each = record { first = b; others = bs; parts = refl; piece = each }

pub one_more : (n : ℕ) → 1 + n ≡ suc n
one_more n = omega arith

letter_by : (b : ℕ) (x y : Bool) → is_within 65 90 b ≡ x → is_within 97 122 b ≡ y → is_letter_byte b ≡ true → 65 ≤ b
letter_by b true y p q e = leb-true 65 b (and_parts (nat_le 65 b) (nat_le b 90) p).0
letter_by b false true p q e = let least : 97 ≤ b = leb-true 97 b (and_parts (nat_le 97 b) (nat_le b 122) q).0 in omega arith
letter_by b false false p q e = let is : (b == 95) ≡ true = rw (p, q) at e in let same : b ≡ 95 = eqb-true b 95 is in omega arith

letter_least : (b : ℕ) → is_letter_byte b ≡ true → 65 ≤ b
letter_least b e = letter_by b (is_within 65 90 b) (is_within 97 122 b) refl refl e

same_letter : (bs rest : List ℕ) → begins_letter (bs ++ 32 ∷ rest) ≡ begins_letter bs
same_letter [] rest = refl
same_letter (b ∷ bs) rest = refl

more_by : (t : Bool) (n m : ℕ) → (if t then suc n else 0) ≡ suc m → (t ≡ true) × (n ≡ m)
more_by true n m e = (refl, omega arith)
more_by false n m e = absurd (omega arith)

-- each byte of a name goes on with it
pub more_name : (b : ℕ) (bs : List ℕ) → dotted_len (b ∷ bs) ≡ length (b ∷ bs) → ((is_word_byte b || (b == 46 && begins_letter bs)) ≡ true) × (dotted_len bs ≡ length bs)
unfolding dotted_len
more_name b bs e = more_by (is_word_byte b || (b == 46 && begins_letter bs)) (dotted_len bs) (length bs) e

pub dotted_on : (bs rest : List ℕ) → dotted_len bs ≡ length bs → dotted_len (bs ++ 32 ∷ rest) ≡ length bs
unfolding dotted_len
dotted_on [] rest e = refl
dotted_on (b ∷ bs) rest e =
    let m = more_name b bs e in
    ap (λ (x : Bool). if is_word_byte b || (b == 46 && x) then suc (dotted_len (bs ++ 32 ∷ rest)) else 0) (same_letter bs rest)
    ∙ ap (λ (x : Bool). if x then suc (dotted_len (bs ++ 32 ∷ rest)) else 0) m.0
    ∙ ap suc (dotted_on bs rest m.1)

dot_by : (b : ℕ) (x y : Bool) → (b == 46) ≡ x → (x && y) ≡ true → begins_with 35 (b ∷ []) ≡ false
dot_by b true y is e = let same : b ≡ 46 = eqb-true b 46 is in ne_eqb b 35 (λ (f : b ≡ 35). omega arith)
dot_by b false y is e = absurd cc

hash_by : (b : ℕ) (bs rest : List ℕ) (w : Bool) → is_word_byte b ≡ w → ((w || (b == 46 && begins_letter bs)) ≡ true)
    → begins_with 35 (drop (prefix_len is_word_byte (bs ++ 32 ∷ rest)) (bs ++ 32 ∷ rest)) ≡ false
    → begins_with 35 (drop (if w then 1 + prefix_len is_word_byte (bs ++ 32 ∷ rest) else 0) (b ∷ bs ++ 32 ∷ rest)) ≡ false
hash_by b bs rest true is goes more = ap (λ (n : ℕ). begins_with 35 (drop n (b ∷ bs ++ 32 ∷ rest))) (one_more (prefix_len is_word_byte (bs ++ 32 ∷ rest))) ∙ more
hash_by b bs rest false is goes more = dot_by b (b == 46) (begins_letter bs) refl goes

-- no number sign stands behind a word of it
pub no_hash : (bs rest : List ℕ) → dotted_len bs ≡ length bs → begins_with 35 (drop (prefix_len is_word_byte (bs ++ 32 ∷ rest)) (bs ++ 32 ∷ rest)) ≡ false
no_hash [] rest e = refl
no_hash (b ∷ bs) rest e =
    let m = more_name b bs e in
    hash_by b bs rest (is_word_byte b) refl m.0 (no_hash bs rest m.1)

named : (w : List ℕ) → list_all is_well_spelled (name_parts w) ≡ true → is_long w ≡ false → name_of w ≡ sign signs.Name (length w)
unfolding name_of
named w spelled short = rw (spelled, short) refl

word_is : (b : ℕ) (bs rest : List ℕ) → dotted_len bs ≡ length bs → list_all is_well_spelled (name_parts (b ∷ bs)) ≡ true → is_long (b ∷ bs) ≡ false
    → word_piece dialects.Extended (b ∷ bs ++ 32 ∷ rest) ≡ sign signs.Name (length (b ∷ bs))
unfolding word_piece
word_is b bs rest whole spelled short =
    let hash : begins_with 35 (drop (1 + prefix_len is_word_byte (bs ++ 32 ∷ rest)) (b ∷ bs ++ 32 ∷ rest)) ≡ false =
    ap (λ (n : ℕ). begins_with 35 (drop n (b ∷ bs ++ 32 ∷ rest))) (one_more (prefix_len is_word_byte (bs ++ 32 ∷ rest))) ∙ no_hash bs rest whole in
    let front : take (1 + dotted_len (bs ++ 32 ∷ rest)) (b ∷ bs ++ 32 ∷ rest) ≡ b ∷ bs =
    ap (λ (n : ℕ). take n (b ∷ bs ++ 32 ∷ rest)) (ap (λ (k : ℕ). 1 + k) (dotted_on bs rest whole) ∙ one_more (length bs))
    ∙ ap (λ (xs : List ℕ). b ∷ xs) (take_at bs (32 ∷ rest) (length bs) refl) in
    rw hash (ap name_of front ∙ named (b ∷ bs) spelled short)

pub solid_is : (b : ℕ) (xs : List ℕ) → is_letter_byte b ≡ true → piece_of dialects.Extended (b ∷ xs) ≡ word_piece dialects.Extended (b ∷ xs)
unfolding piece_of solid_piece
solid_is b xs letter =
    let least = letter_least b letter in
    let a : (b == 10) ≡ false = ne_eqb b 10 (λ (e : b ≡ 10). omega arith) in
    let c : (b == 32) ≡ false = ne_eqb b 32 (λ (e : b ≡ 32). omega arith) in
    let d : (b == 9) ≡ false = ne_eqb b 9 (λ (e : b ≡ 9). omega arith) in
    let f : (b == 13) ≡ false = ne_eqb b 13 (λ (e : b ≡ 13). omega arith) in
    let g : (b == 40) ≡ false = ne_eqb b 40 (λ (e : b ≡ 40). omega arith) in
    rw (a, c, d, f, g, letter) refl

pub name_is_token : (word : List ℕ) → IsNameText word → IsOneToken word signs.Name
name_is_token word is =
    subst (λ (w : List ℕ). IsOneToken w signs.Name) (sym is.parts)
    (one_token is.first is.others signs.Name (λ (rest : List ℕ).
    solid_is is.first (is.others ++ 32 ∷ rest) is.letter
    ∙ word_is is.first is.others rest is.whole
    (subst (λ (w : List ℕ). list_all is_well_spelled (name_parts w) ≡ true) is.parts is.spelled)
    (subst (λ (w : List ℕ). is_long w ≡ false) is.parts is.short)))
