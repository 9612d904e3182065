-- A token of a text, written again with a blank behind it, is the same token.
use Rattle.std.proofs.Common.{◌≡◌, ℕ, zero, suc, ◌+◌, ◌-◌, Bool, true, false, cond, eqb, List, [], ◌∷◌, ◌++◌, length, take, drop, Option, Some, None, refl, sym, ap, ◌∙◌, subst, arith, ◌&&◌, ◌||◌}
use Rattle.std.specs.Prelude.{is_some}
use Rattle.std.specs.List.{AllByRecursion, prefix_len, list_all}
use Rattle.std.proofs.lemmas.Bool.{eqb-true, and_parts}
use Rattle.std.proofs.lemmas.List.{take_at}
use Rattle.il_model.specs.declared.dialect.Dialect.TheVariants as dialects
use Rattle.il_model.specs.Words.{is_well_spelled, name_parts}
use Rattle.il_model.specs.Dialects.{literal_in}
use Rattle.il_reader.specs.declared.lexeme.Piece.{Piece}
use Rattle.il_reader.specs.declared.lexeme.Sign.{Sign}
use Rattle.il_reader.specs.declared.lexeme.Sign.TheVariants as signs
use Rattle.il_reader.specs.declared.lexeme.Class.{Class}
use Rattle.il_reader.specs.declared.lexeme.Class.TheVariants as classes
use Rattle.il_reader.specs.Tokens.{Token, is_letter_byte, is_word_byte, is_literal_byte, is_address_byte, is_number_start, is_blank_byte, is_within, is_n, is_word_end, begins_with, begins_letter, sign, dotted_len, is_long, name_of, literal_piece, word_piece, sign_of, solid_piece, comment_piece, comment_len, piece_of, put, tokens_behind}
use Rattle.laws_reading.specs.Words.{IsOneToken}
use Rattle.laws_reading.specs.Tokens.{IsWordSign, IsAgain, AreAgain}
use Rattle.laws_reading.proofs.Names.{name_is_token, one_more, solid_is}

-- ---- pieces

record Good (bytes : List ℕ) (p : Piece) : Type 0 where
  again : (s : Sign) → p.class ≡ Some (classes.Sign s) → IsWordSign s → IsOneToken (take p.len bytes) s

abbrev IsNone : Option Class → Type 0
IsNone None = Unit {0}
IsNone (Some classes.End) = Unit {0}
IsNone (Some (classes.Broken f)) = Unit {0}
IsNone (Some (classes.Sign s)) = IsWordSign s → ⊥

none_by : (c : Option Class) (s : Sign) → IsNone c → c ≡ Some (classes.Sign s) → IsWordSign s → ⊥
none_by None s none e good = absurd cc
none_by (Some classes.End) s none e good = absurd cc
none_by (Some (classes.Broken f)) s none e good = absurd cc
none_by (Some (classes.Sign x)) s none e good = let same : s ≡ x = cc in none (subst IsWordSign same good)

other : (bytes : List ℕ) (p : Piece) → IsNone p.class → Good bytes p
other bytes p none = record { again = λ (s : Sign) (e : p.class ≡ Some (classes.Sign s)) (good : IsWordSign s). absurd (none_by p.class s none e good) }

sign_is : (x s : Sign) → Some (classes.Sign x) ≡ Some (classes.Sign s) → x ≡ s
sign_is x s e = cc

this : (bytes : List ℕ) (x : Sign) (n : ℕ) → IsOneToken (take n bytes) x → Good bytes (sign x n)
this bytes x n is = record { again = λ (s : Sign) (e : Some (classes.Sign x) ≡ Some (classes.Sign s)) (good : IsWordSign s). subst (IsOneToken (take n bytes)) (sign_is x s e) is }

either : (bytes : List ℕ) (c : Bool) (p q : Piece) → (c ≡ true → Good bytes p) → (c ≡ false → Good bytes q) → Good bytes (cond c p q)
either bytes true p q a b = a refl
either bytes false p q a b = b refl

-- ---- prefixes

pub all_prefix : (p : ℕ → Bool) (xs : List ℕ) → list_all p (take (prefix_len p xs) xs) ≡ true
all_prefix p [] = refl
all_prefix p (x ∷ xs) = chosen (p x) refl (all_prefix p xs)
  where
    chosen : (b : Bool) → p x ≡ b → list_all p (take (prefix_len p xs) xs) ≡ true → list_all p (take (cond b (1 + prefix_len p xs) 0) (x ∷ xs)) ≡ true
    chosen true is h =
        let n : 1 + prefix_len p xs ≡ suc (prefix_len p xs) = omega arith in
        rw (n, is, h) refl
    chosen false is h = refl

pub prefix_again : (p : ℕ → Bool) (xs rest : List ℕ) → p 32 ≡ false → list_all p xs ≡ true → prefix_len p (xs ++ 32 ∷ rest) ≡ length xs
prefix_again p [] rest none all = rw none refl
prefix_again p (x ∷ xs) rest none all =
    let h = and_parts (p x) (list_all p xs) all in
    let n : 1 + length xs ≡ suc (length xs) = omega arith in
    rw (h.0, prefix_again p xs rest none h.1) n

byte_not : (p : ℕ → Bool) (k b : ℕ) → p k ≡ false → p b ≡ true → eqb b k ≡ false
byte_not p k b lacks is = by_test (eqb b k) refl
  where
    by_test : (t : Bool) → eqb b k ≡ t → t ≡ false
    by_test false e = refl
    by_test true e = let clash : true ≡ false = sym is ∙ ap p (eqb-true b k e) ∙ lacks in absurd cc

pub first_one : (k b : ℕ) (bs : List ℕ) → take (1 + k) (b ∷ bs) ≡ b ∷ take k bs
first_one k b bs = ap (λ (n : ℕ). take n (b ∷ bs)) (one_more k)

-- all of a text that a prefix is taken of
pub whole_again : (p : ℕ → Bool) (b : ℕ) (bs rest : List ℕ) → p 32 ≡ false → list_all p bs ≡ true → take (1 + prefix_len p (bs ++ 32 ∷ rest)) (b ∷ bs ++ 32 ∷ rest) ≡ b ∷ bs
whole_again p b bs rest none all =
    ap (λ (n : ℕ). take (1 + n) (b ∷ bs ++ 32 ∷ rest)) (prefix_again p bs rest none all)
    ∙ first_one (length bs) b (bs ++ 32 ∷ rest)
    ∙ ap (λ (xs : List ℕ). b ∷ xs) (take_at bs (32 ∷ rest) (length bs) refl)

-- ---- signs

at_byte : (b k : ℕ) (bs : List ℕ) (n : ℕ) (s : Sign) → eqb b k ≡ true → IsOneToken (take n (k ∷ bs)) s → IsOneToken (take n (b ∷ bs)) s
at_byte b k bs n s e is = subst (λ (c : ℕ). IsOneToken (take n (c ∷ bs)) s) (sym (eqb-true b k e)) is

close_again : (bs : List ℕ) → IsOneToken (take 1 (41 ∷ bs)) signs.Close
unfolding piece_of solid_piece sign_of
close_again bs = record { first = 41; others = []; parts = refl; piece = λ (rest : List ℕ). refl }

and_again : (bs : List ℕ) → IsOneToken (take 1 (38 ∷ bs)) signs.Ampersand
unfolding piece_of solid_piece sign_of
and_again bs = record { first = 38; others = []; parts = refl; piece = λ (rest : List ℕ). refl }

letter_n_piece : (c : ℕ) (rest : List ℕ) → (eqb c 78 || eqb c 110) ≡ true → piece_of dialects.Extended (38 ∷ c ∷ 32 ∷ rest) ≡ sign signs.Ampersand 2
unfolding piece_of solid_piece sign_of
letter_n_piece c rest e = rw e refl

and_n_again : (bs : List ℕ) → is_n bs ≡ true → IsOneToken (take 2 (38 ∷ bs)) signs.Ampersand
and_n_again [] e = absurd cc
and_n_again (c ∷ cs) e = record { first = 38; others = c ∷ []; parts = refl; piece = λ (rest : List ℕ). letter_n_piece c rest (and_parts (eqb c 78 || eqb c 110) (is_word_end cs) e).0 }

sign_good : (b : ℕ) (bs : List ℕ) → Good (b ∷ bs) (sign_of b bs)
unfolding sign_of
sign_good b bs =
    either (b ∷ bs) (eqb b 58) _ _ (λ _. either (b ∷ bs) (begins_with 61 bs) _ _ (λ _. other (b ∷ bs) _ (λ (x : ⊥). x)) (λ _. other (b ∷ bs) _ (λ (x : ⊥). x))) (λ _.
    either (b ∷ bs) (eqb b 61) _ _ (λ _. either (b ∷ bs) (begins_with 62 bs) _ _ (λ _. other (b ∷ bs) _ (λ (x : ⊥). x)) (λ _. other (b ∷ bs) _ tt)) (λ _.
    either (b ∷ bs) (eqb b 44) _ _ (λ _. other (b ∷ bs) _ (λ (x : ⊥). x)) (λ _.
    either (b ∷ bs) (eqb b 59) _ _ (λ _. other (b ∷ bs) _ (λ (x : ⊥). x)) (λ _.
    either (b ∷ bs) (eqb b 40) _ _ (λ _. other (b ∷ bs) _ (λ (x : ⊥). x)) (λ _.
    either (b ∷ bs) (eqb b 41) _ _ (λ is. this (b ∷ bs) signs.Close 1 (at_byte b 41 bs 1 signs.Close is (close_again bs))) (λ _.
    either (b ∷ bs) (eqb b 46) _ _ (λ _. other (b ∷ bs) _ (λ (x : ⊥). x)) (λ _.
    either (b ∷ bs) (eqb b 38) _ _ (λ is. either (b ∷ bs) (is_n bs) _ _ (λ n. this (b ∷ bs) signs.Ampersand 2 (at_byte b 38 bs 2 signs.Ampersand is (and_n_again bs n))) (λ _. this (b ∷ bs) signs.Ampersand 1 (at_byte b 38 bs 1 signs.Ampersand is (and_again bs)))) (λ _.
    either (b ∷ bs) (is_within 32 126 b) _ _ (λ _. other (b ∷ bs) _ tt) (λ _. other (b ∷ bs) _ tt)))))))))

-- ---- locations

address_piece : (bs rest : List ℕ) → list_all is_address_byte bs ≡ true → piece_of dialects.Extended (37 ∷ bs ++ 32 ∷ rest) ≡ sign signs.Address (suc (length bs))
unfolding piece_of solid_piece
address_piece bs rest all = ap (λ (n : ℕ). sign signs.Address n) (ap (λ (n : ℕ). 1 + n) (prefix_again is_address_byte bs rest refl all) ∙ one_more (length bs))

address_again : (bs : List ℕ) → IsOneToken (take (1 + prefix_len is_address_byte bs) (37 ∷ bs)) signs.Address
address_again bs =
    let k = prefix_len is_address_byte bs in
    subst (λ (w : List ℕ). IsOneToken w signs.Address) (sym (first_one k 37 bs))
    (record { first = 37; others = take k bs; parts = refl; piece = λ (rest : List ℕ). address_piece (take k bs) rest (all_prefix is_address_byte bs) })

-- ---- literals

pub literal_there : (text : List ℕ) → is_some (literal_in dialects.Extended text) ≡ true → literal_piece dialects.Extended text ≡ sign signs.Literal (length text)
unfolding literal_piece
literal_there text is = rw is refl

pub number_piece : (b : ℕ) (xs : List ℕ) → is_letter_byte b ≡ false → is_number_start b ≡ true → piece_of dialects.Extended (b ∷ xs) ≡ literal_piece dialects.Extended (take (1 + prefix_len is_literal_byte xs) (b ∷ xs))
unfolding piece_of solid_piece
number_piece b xs letter number =
    rw (byte_not is_number_start 10 b refl number, byte_not is_number_start 32 b refl number, byte_not is_number_start 9 b refl number, byte_not is_number_start 13 b refl number, byte_not is_number_start 40 b refl number, letter, number) refl

number_again : (b : ℕ) (bs : List ℕ) → is_letter_byte b ≡ false → is_number_start b ≡ true → list_all is_literal_byte bs ≡ true → is_some (literal_in dialects.Extended (b ∷ bs)) ≡ true → IsOneToken (b ∷ bs) signs.Literal
number_again b bs letter number all is = record {
  first = b;
  others = bs;
  parts = refl;
  piece = λ (rest : List ℕ). number_piece b (bs ++ 32 ∷ rest) letter number ∙ ap (literal_piece dialects.Extended) (whole_again is_literal_byte b bs rest refl all) ∙ literal_there (b ∷ bs) is;
}

-- a number sign behind the first word, and behind the first word of what is taken
word_literal : (b : ℕ) → is_word_byte b ≡ true → is_literal_byte b ≡ true
word_literal b is = rw is refl

hash_literal : (b : ℕ) → is_word_byte b ≡ false → eqb b 35 ≡ true → is_literal_byte b ≡ true
hash_literal b word is = rw (word, is) refl

hash_again : (bs rest : List ℕ) → begins_with 35 (drop (prefix_len is_word_byte bs) bs) ≡ true
    → begins_with 35 (drop (prefix_len is_word_byte (take (prefix_len is_literal_byte bs) bs ++ 32 ∷ rest)) (take (prefix_len is_literal_byte bs) bs ++ 32 ∷ rest)) ≡ true
hash_again [] rest e = absurd cc
hash_again (b ∷ bs) rest e = by_word (is_word_byte b) refl e (hash_again bs rest)
  where
    by_word : (w : Bool) → is_word_byte b ≡ w → begins_with 35 (drop (cond w (1 + prefix_len is_word_byte bs) 0) (b ∷ bs)) ≡ true
        → (begins_with 35 (drop (prefix_len is_word_byte bs) bs) ≡ true → begins_with 35 (drop (prefix_len is_word_byte (take (prefix_len is_literal_byte bs) bs ++ 32 ∷ rest)) (take (prefix_len is_literal_byte bs) bs ++ 32 ∷ rest)) ≡ true)
        → begins_with 35 (drop (prefix_len is_word_byte (take (prefix_len is_literal_byte (b ∷ bs)) (b ∷ bs) ++ 32 ∷ rest)) (take (prefix_len is_literal_byte (b ∷ bs)) (b ∷ bs) ++ 32 ∷ rest)) ≡ true
    by_word true is h more =
        let k = prefix_len is_literal_byte bs in
        let xs = take k bs ++ 32 ∷ rest in
        let less : begins_with 35 (drop (prefix_len is_word_byte bs) bs) ≡ true = sym (ap (λ (n : ℕ). begins_with 35 (drop n (b ∷ bs))) (one_more (prefix_len is_word_byte bs))) ∙ h in
        let front : take (prefix_len is_literal_byte (b ∷ bs)) (b ∷ bs) ≡ b ∷ take k bs = ap (λ (c : Bool). take (cond c (1 + k) 0) (b ∷ bs)) (word_literal b is) ∙ first_one k b bs in
        let step : begins_with 35 (drop (prefix_len is_word_byte (b ∷ xs)) (b ∷ xs)) ≡ true = ap (λ (c : Bool). begins_with 35 (drop (cond c (1 + prefix_len is_word_byte xs) 0) (b ∷ xs))) is ∙ ap (λ (n : ℕ). begins_with 35 (drop n (b ∷ xs))) (one_more (prefix_len is_word_byte xs)) ∙ more less in
        ap (λ (ys : List ℕ). begins_with 35 (drop (prefix_len is_word_byte (ys ++ 32 ∷ rest)) (ys ++ 32 ∷ rest))) front ∙ step
    by_word false is h more =
        let k = prefix_len is_literal_byte bs in
        let xs = take k bs ++ 32 ∷ rest in
        let front : take (prefix_len is_literal_byte (b ∷ bs)) (b ∷ bs) ≡ b ∷ take k bs = ap (λ (c : Bool). take (cond c (1 + k) 0) (b ∷ bs)) (hash_literal b is h) ∙ first_one k b bs in
        let step : begins_with 35 (drop (prefix_len is_word_byte (b ∷ xs)) (b ∷ xs)) ≡ true = ap (λ (c : Bool). begins_with 35 (drop (cond c (1 + prefix_len is_word_byte xs) 0) (b ∷ xs))) is ∙ h in
        ap (λ (ys : List ℕ). begins_with 35 (drop (prefix_len is_word_byte (ys ++ 32 ∷ rest)) (ys ++ 32 ∷ rest))) front ∙ step

pub word_hash : (b : ℕ) (xs : List ℕ) → begins_with 35 (drop (1 + prefix_len is_word_byte xs) (b ∷ xs)) ≡ true → word_piece dialects.Extended (b ∷ xs) ≡ literal_piece dialects.Extended (take (1 + prefix_len is_literal_byte xs) (b ∷ xs))
unfolding word_piece
word_hash b xs e = rw e refl

typed_again : (b : ℕ) (bs : List ℕ) → is_letter_byte b ≡ true → begins_with 35 (drop (1 + prefix_len is_word_byte bs) (b ∷ bs)) ≡ true → is_some (literal_in dialects.Extended (b ∷ take (prefix_len is_literal_byte bs) bs)) ≡ true
    → IsOneToken (b ∷ take (prefix_len is_literal_byte bs) bs) signs.Literal
typed_again b bs letter hash is =
    let k = prefix_len is_literal_byte bs in
    let ys = take k bs in
    let less : begins_with 35 (drop (prefix_len is_word_byte bs) bs) ≡ true = sym (ap (λ (n : ℕ). begins_with 35 (drop n (b ∷ bs))) (one_more (prefix_len is_word_byte bs))) ∙ hash in
    record {
      first = b;
      others = ys;
      parts = refl;
      piece = λ (rest : List ℕ).
          solid_is b (ys ++ 32 ∷ rest) letter
          ∙ word_hash b (ys ++ 32 ∷ rest) (ap (λ (n : ℕ). begins_with 35 (drop n (b ∷ ys ++ 32 ∷ rest))) (one_more (prefix_len is_word_byte (ys ++ 32 ∷ rest))) ∙ hash_again bs rest less)
          ∙ ap (literal_piece dialects.Extended) (whole_again is_literal_byte b ys rest refl (all_prefix is_literal_byte bs))
          ∙ literal_there (b ∷ ys) is;
    }

-- ---- names

letter_taken : (bs : List ℕ) → begins_letter bs ≡ true → begins_letter (take (dotted_len bs) bs) ≡ true
unfolding dotted_len
letter_taken [] e = absurd cc
letter_taken (c ∷ cs) e = let word : is_word_byte c ≡ true = rw e refl in rw word e

kept : (w d x y : Bool) → (w || (d && x)) ≡ true → (x ≡ true → y ≡ true) → (w || (d && y)) ≡ true
kept true d x y e f = refl
kept false true x y e f = f e
kept false false x y e f = absurd cc

pub dotted_again : (bs : List ℕ) → dotted_len (take (dotted_len bs) bs) ≡ length (take (dotted_len bs) bs)
unfolding dotted_len
dotted_again [] = refl
dotted_again (b ∷ bs) = by_test (is_word_byte b || (eqb b 46 && begins_letter bs)) refl (dotted_again bs)
  where
    by_test : (c : Bool) → (is_word_byte b || (eqb b 46 && begins_letter bs)) ≡ c → dotted_len (take (dotted_len bs) bs) ≡ length (take (dotted_len bs) bs)
        → dotted_len (take (cond c (suc (dotted_len bs)) 0) (b ∷ bs)) ≡ length (take (cond c (suc (dotted_len bs)) 0) (b ∷ bs))
    by_test true e again = rw (kept (is_word_byte b) (eqb b 46) (begins_letter bs) (begins_letter (take (dotted_len bs) bs)) e (letter_taken bs), again) refl
    by_test false e again = refl

name_again : (b : ℕ) (bs : List ℕ) → is_letter_byte b ≡ true → let w = b ∷ take (dotted_len bs) bs in list_all is_well_spelled (name_parts w) ≡ true → is_long w ≡ false → IsOneToken w signs.Name
name_again b bs letter spelled short = name_is_token (b ∷ take (dotted_len bs) bs)
    (record { first = b; others = take (dotted_len bs) bs; parts = refl; letter = letter; whole = dotted_again bs; spelled = spelled; short = short })

-- ---- all of them

pub all_of : (text bytes : List ℕ) (n : ℕ) → take n bytes ≡ text → take (length text) bytes ≡ text
all_of text bytes n e = subst (λ (w : List ℕ). take (length w) bytes ≡ w) e (take-length bytes n)
  where
    take-length : (xs : List ℕ) (k : ℕ) → take (length (take k xs)) xs ≡ take k xs
    take-length [] zero = refl
    take-length [] (suc k) = refl
    take-length (x ∷ xs) zero = refl
    take-length (x ∷ xs) (suc k) = ap (λ (ys : List ℕ). x ∷ ys) (take-length xs k)

literal_good : (bytes text : List ℕ) (n : ℕ) → take n bytes ≡ text → (is_some (literal_in dialects.Extended text) ≡ true → IsOneToken text signs.Literal) → Good bytes (literal_piece dialects.Extended text)
unfolding literal_piece
literal_good bytes text n e each =
    either bytes (is_some (literal_in dialects.Extended text)) _ _ (λ is. this bytes signs.Literal (length text) (subst (λ (w : List ℕ). IsOneToken w signs.Literal) (sym (all_of text bytes n e)) (each is))) (λ _. other bytes _ tt)

name_good : (bytes text : List ℕ) (n : ℕ) → take n bytes ≡ text → (list_all is_well_spelled (name_parts text) ≡ true → is_long text ≡ false → IsOneToken text signs.Name) → Good bytes (name_of text)
unfolding name_of
name_good bytes text n e each =
    either bytes (list_all is_well_spelled (name_parts text)) _ _
    (λ spelled. either bytes (is_long text) _ _ (λ _. other bytes _ tt) (λ short. this bytes signs.Name (length text) (subst (λ (w : List ℕ). IsOneToken w signs.Name) (sym (all_of text bytes n e)) (each spelled short))))
    (λ _. other bytes _ tt)

word_good : (b : ℕ) (bs : List ℕ) → is_letter_byte b ≡ true → Good (b ∷ bs) (word_piece dialects.Extended (b ∷ bs))
unfolding word_piece
word_good b bs letter =
    let k = prefix_len is_literal_byte bs in
    let n = dotted_len bs in
    either (b ∷ bs) (begins_with 35 (drop (1 + prefix_len is_word_byte bs) (b ∷ bs))) _ _
    (λ hash. literal_good (b ∷ bs) (take (1 + k) (b ∷ bs)) (1 + k) refl (λ is. subst (λ (w : List ℕ). IsOneToken w signs.Literal) (sym (first_one k b bs)) (typed_again b bs letter hash (subst (λ (w : List ℕ). is_some (literal_in dialects.Extended w) ≡ true) (first_one k b bs) is))))
    (λ _. name_good (b ∷ bs) (take (1 + n) (b ∷ bs)) (1 + n) refl (λ spelled short. subst (λ (w : List ℕ). IsOneToken w signs.Name) (sym (first_one n b bs))
    (name_again b bs letter (subst (λ (w : List ℕ). list_all is_well_spelled (name_parts w) ≡ true) (first_one n b bs) spelled) (subst (λ (w : List ℕ). is_long w ≡ false) (first_one n b bs) short))))

solid_good : (b : ℕ) (bs : List ℕ) → Good (b ∷ bs) (solid_piece dialects.Extended (b ∷ bs))
unfolding solid_piece
solid_good b bs =
    let k = prefix_len is_literal_byte bs in
    either (b ∷ bs) (is_letter_byte b) _ _ (λ letter. word_good b bs letter) (λ letter.
    either (b ∷ bs) (is_number_start b) _ _
    (λ number. literal_good (b ∷ bs) (take (1 + k) (b ∷ bs)) (1 + k) refl (λ is. subst (λ (w : List ℕ). IsOneToken w signs.Literal) (sym (first_one k b bs))
    (number_again b (take k bs) letter number (all_prefix is_literal_byte bs) (subst (λ (w : List ℕ). is_some (literal_in dialects.Extended w) ≡ true) (first_one k b bs) is)))) (λ _.
    either (b ∷ bs) (eqb b 37) _ _ (λ is. this (b ∷ bs) signs.Address (1 + prefix_len is_address_byte bs) (at_byte b 37 bs (1 + prefix_len is_address_byte bs) signs.Address is (address_again bs))) (λ _. sign_good b bs)))

comment_good : (bytes : List ℕ) (o : Option ℕ) → Good bytes (comment_piece o)
comment_good bytes None = other bytes _ tt
comment_good bytes (Some n) = other bytes _ tt

piece_good : (b : ℕ) (bs : List ℕ) → Good (b ∷ bs) (piece_of dialects.Extended (b ∷ bs))
unfolding piece_of
piece_good b bs =
    either (b ∷ bs) (eqb b 10) _ _ (λ _. other (b ∷ bs) _ (λ (x : ⊥). x)) (λ _.
    either (b ∷ bs) (is_blank_byte b) _ _ (λ _. other (b ∷ bs) _ tt) (λ _.
    either (b ∷ bs) (eqb b 40 && begins_with 42 bs) _ _ (λ _. comment_good (b ∷ bs) (comment_len (drop 1 bs))) (λ _. solid_good b bs)))

put_good : (o : Option Class) (text : List ℕ) (left : ℕ) (ts : List Token) → ((s : Sign) → o ≡ Some (classes.Sign s) → IsWordSign s → IsOneToken text s) → AllByRecursion IsAgain ts → AllByRecursion IsAgain (put o text left ts)
put_good None text left ts here all = all
put_good (Some classes.End) text left ts here all = (λ (s : Sign) (e : classes.End ≡ classes.Sign s) (good : IsWordSign s). absurd cc, tt)
put_good (Some (classes.Broken f)) text left ts here all = (λ (s : Sign) (e : classes.Broken f ≡ classes.Sign s) (good : IsWordSign s). absurd cc, tt)
put_good (Some (classes.Sign x)) text left ts here all = (λ (s : Sign) (e : classes.Sign x ≡ classes.Sign s) (good : IsWordSign s). here s (ap (λ (c : Class). Some c) e) good, all)

tokens_good : (k : ℕ) (bytes : List ℕ) → AllByRecursion IsAgain (tokens_behind dialects.Extended k bytes)
unfolding tokens_behind
tokens_good k [] = (λ (s : Sign) (e : classes.End ≡ classes.Sign s) (good : IsWordSign s). absurd cc, tt)
tokens_good (suc k) (b ∷ bs) = tokens_good k bs
tokens_good zero (b ∷ bs) =
    let p = piece_of dialects.Extended (b ∷ bs) in
    put_good p.class (take p.len (b ∷ bs)) (length (b ∷ bs)) (tokens_behind dialects.Extended (p.len - 1) bs) (piece_good b bs).again (tokens_good (p.len - 1) bs)

pub are_again : AreAgain
are_again text = tokens_good 0 text
