-- What the tokens of a text of units are: names and literals by their bytes, and each stands where it says.
use Rattle.std.proofs.Common.{◌≡◌, ℕ, zero, suc, ◌+◌, ◌-◌, Bool, true, false, cond, eqb, List, [], ◌∷◌, ◌++◌, length, take, drop, Option, Some, None, refl, sym, ap, ◌∙◌, subst, arith, append_assoc, length-append, ◌&&◌, ◌||◌}
use Rattle.std.specs.Prelude.{is_some}
use Rattle.std.specs.List.{AllByRecursion, prefix_len, list_all}
use Rattle.std.proofs.lemmas.Bool.{and_from}
use Rattle.std.proofs.lemmas.List.{drop_at}
use Rattle.il_model.specs.declared.dialect.Dialect.TheVariants as dialects
use Rattle.il_model.specs.Words.{is_well_spelled, name_parts}
use Rattle.il_model.specs.Dialects.{literal_in}
use Rattle.il_reader.specs.declared.lexeme.Piece.{Piece}
use Rattle.il_reader.specs.declared.lexeme.Sign.{Sign}
use Rattle.il_reader.specs.declared.lexeme.Sign.TheVariants as signs
use Rattle.il_reader.specs.declared.lexeme.Class.{Class}
use Rattle.il_reader.specs.declared.lexeme.Class.TheVariants as classes
use Rattle.il_reader.specs.Tokens.{Token, is_letter_byte, is_word_byte, is_literal_byte, is_address_byte, is_number_start, is_blank_byte, is_within, is_n, begins_with, begins_letter, dotted_len, is_long, name_of, literal_piece, word_piece, sign_of, solid_piece, comment_piece, comment_len, piece_of, put, tokens_behind, tokens_of}
use Rattle.il_reader.specs.Front.{first, same_sign, is_class_of, is_sign}
use Rattle.laws_reading.specs.Words.{IsOneToken}
use Rattle.laws_reading.specs.Tokens.{IsAgain}
use Rattle.laws_reading.proofs.Names.{IsNameText, more_name}
use Rattle.laws_reading.proofs.Again.{all_prefix, first_one, dotted_again, all_of, are_again}

-- ---- bytes

abbrev is_of : Sign → Option Class → Bool
is_of s None = false
is_of s (Some c) = is_class_of s c

record Fact (bytes : List ℕ) (p : Piece) : Type 0 where
  name : is_of signs.Name p.class ≡ true → IsNameText (take p.len bytes)
  literal : is_of signs.Literal p.class ≡ true → list_all is_literal_byte (take p.len bytes) ≡ true
  address : is_of signs.Address p.class ≡ true → begins_with 37 (take p.len bytes) ≡ true

other : (bytes : List ℕ) (p : Piece) → is_of signs.Name p.class ≡ false → is_of signs.Literal p.class ≡ false → is_of signs.Address p.class ≡ false → Fact bytes p
other bytes p a b c = record { name = λ e. let n : false ≡ true = sym a ∙ e in absurd cc; literal = λ e. let n : false ≡ true = sym b ∙ e in absurd cc; address = λ e. let n : false ≡ true = sym c ∙ e in absurd cc }

either : (bytes : List ℕ) (c : Bool) (p q : Piece) → (c ≡ true → Fact bytes p) → (c ≡ false → Fact bytes q) → Fact bytes (cond c p q)
either bytes true p q a b = a refl
either bytes false p q a b = b refl

literal_fact : (bytes text : List ℕ) (n : ℕ) → take n bytes ≡ text → list_all is_literal_byte text ≡ true → Fact bytes (literal_piece dialects.Extended text)
unfolding literal_piece
literal_fact bytes text n e all =
    either bytes (is_some (literal_in dialects.Extended text)) _ _
    (λ _. record { name = λ f. absurd cc; literal = λ f. ap (list_all is_literal_byte) (all_of text bytes n e) ∙ all; address = λ f. absurd cc })
    (λ _. other bytes _ refl refl refl)

name_fact : (bytes text : List ℕ) (n : ℕ) → take n bytes ≡ text → (list_all is_well_spelled (name_parts text) ≡ true → is_long text ≡ false → IsNameText text) → Fact bytes (name_of text)
unfolding name_of
name_fact bytes text n e each =
    either bytes (list_all is_well_spelled (name_parts text)) _ _
    (λ spelled. either bytes (is_long text) _ _ (λ _. other bytes _ refl refl refl) (λ short. record { name = λ f. subst IsNameText (sym (all_of text bytes n e)) (each spelled short); literal = λ f. absurd cc; address = λ f. absurd cc }))
    (λ _. other bytes _ refl refl refl)

letter_literal : (b : ℕ) → is_letter_byte b ≡ true → is_literal_byte b ≡ true
letter_literal b is = rw is refl

number_by : (d p m w h t : Bool) → ((d || p) || m) ≡ true → ((((w || d) || h) || t) || p) || m ≡ true
number_by d p m w h t e = cases d p m w h t e
  where
    cases : (d p m w h t : Bool) → ((d || p) || m) ≡ true → ((((w || d) || h) || t) || p) || m ≡ true
    cases true p m true h t e = refl
    cases true p m false h t e = refl
    cases false true m true h t e = refl
    cases false true m false true t e = refl
    cases false true m false false true e = refl
    cases false true m false false false e = refl
    cases false false true true h t e = refl
    cases false false true false true t e = refl
    cases false false true false false true e = refl
    cases false false true false false false e = refl
    cases false false false w h t e = absurd cc

number_literal : (b : ℕ) → is_number_start b ≡ true → is_literal_byte b ≡ true
number_literal b is = number_by (is_within 48 57 b) (eqb b 43) (eqb b 45) (is_letter_byte b) (eqb b 35) (eqb b 46) is

word_fact : (b : ℕ) (bs : List ℕ) → is_letter_byte b ≡ true → Fact (b ∷ bs) (word_piece dialects.Extended (b ∷ bs))
unfolding word_piece
word_fact b bs letter =
    let k = prefix_len is_literal_byte bs in
    let n = dotted_len bs in
    either (b ∷ bs) (begins_with 35 (drop (1 + prefix_len is_word_byte bs) (b ∷ bs))) _ _
    (λ _. literal_fact (b ∷ bs) (take (1 + k) (b ∷ bs)) (1 + k) refl (ap (list_all is_literal_byte) (first_one k b bs) ∙ and_from (is_literal_byte b) (list_all is_literal_byte (take k bs)) (letter_literal b letter) (all_prefix is_literal_byte bs)))
    (λ _. name_fact (b ∷ bs) (take (1 + n) (b ∷ bs)) (1 + n) refl (λ spelled short. record {
      first = b;
      others = take n bs;
      parts = first_one n b bs;
      letter = letter;
      whole = dotted_again bs;
      spelled = spelled;
      short = short;
    }))

sign_fact : (bytes : List ℕ) (b : ℕ) (bs : List ℕ) → Fact bytes (sign_of b bs)
unfolding sign_of
sign_fact bytes b bs =
    either bytes (eqb b 58) _ _ (λ _. either bytes (begins_with 61 bs) _ _ (λ _. other bytes _ refl refl refl) (λ _. other bytes _ refl refl refl)) (λ _.
    either bytes (eqb b 61) _ _ (λ _. either bytes (begins_with 62 bs) _ _ (λ _. other bytes _ refl refl refl) (λ _. other bytes _ refl refl refl)) (λ _.
    either bytes (eqb b 44) _ _ (λ _. other bytes _ refl refl refl) (λ _.
    either bytes (eqb b 59) _ _ (λ _. other bytes _ refl refl refl) (λ _.
    either bytes (eqb b 40) _ _ (λ _. other bytes _ refl refl refl) (λ _.
    either bytes (eqb b 41) _ _ (λ _. other bytes _ refl refl refl) (λ _.
    either bytes (eqb b 46) _ _ (λ _. other bytes _ refl refl refl) (λ _.
    either bytes (eqb b 38) _ _ (λ _. either bytes (is_n bs) _ _ (λ _. other bytes _ refl refl refl) (λ _. other bytes _ refl refl refl)) (λ _.
    either bytes (is_within 32 126 b) _ _ (λ _. other bytes _ refl refl refl) (λ _. other bytes _ refl refl refl)))))))))

solid_fact : (b : ℕ) (bs : List ℕ) → Fact (b ∷ bs) (solid_piece dialects.Extended (b ∷ bs))
unfolding solid_piece
solid_fact b bs =
    let k = prefix_len is_literal_byte bs in
    either (b ∷ bs) (is_letter_byte b) _ _ (λ letter. word_fact b bs letter) (λ _.
    either (b ∷ bs) (is_number_start b) _ _
    (λ number. literal_fact (b ∷ bs) (take (1 + k) (b ∷ bs)) (1 + k) refl (ap (list_all is_literal_byte) (first_one k b bs) ∙ and_from (is_literal_byte b) (list_all is_literal_byte (take k bs)) (number_literal b number) (all_prefix is_literal_byte bs))) (λ _.
    either (b ∷ bs) (eqb b 37) _ _ (λ is. record { name = λ f. absurd cc; literal = λ f. absurd cc; address = λ f. ap (begins_with 37) (first_one (prefix_len is_address_byte bs) b bs) ∙ is }) (λ _. sign_fact (b ∷ bs) b bs)))

comment_fact : (bytes : List ℕ) (o : Option ℕ) → Fact bytes (comment_piece o)
comment_fact bytes None = other bytes _ refl refl refl
comment_fact bytes (Some n) = other bytes _ refl refl refl

piece_fact : (b : ℕ) (bs : List ℕ) → Fact (b ∷ bs) (piece_of dialects.Extended (b ∷ bs))
unfolding piece_of
piece_fact b bs =
    either (b ∷ bs) (eqb b 10) _ _ (λ _. other (b ∷ bs) _ refl refl refl) (λ _.
    either (b ∷ bs) (is_blank_byte b) _ _ (λ _. other (b ∷ bs) _ refl refl refl) (λ _.
    either (b ∷ bs) (eqb b 40 && begins_with 42 bs) _ _ (λ _. comment_fact (b ∷ bs) (comment_len (drop 1 bs))) (λ _. solid_fact b bs)))

-- ---- tokens

pub record IsKnown (text : List ℕ) (t : Token) : Type 0 where
  pub again : IsAgain t
  pub name : is_sign signs.Name t ≡ true → IsNameText t.text
  pub literal : is_sign signs.Literal t ≡ true → list_all is_literal_byte t.text ≡ true
  pub address : is_sign signs.Address t ≡ true → begins_with 37 t.text ≡ true
  pub place : first (tokens_of dialects.Extended (drop (length text - t.left) text)) ≡ t

record Bytes (t : Token) : Type 0 where
  name : is_sign signs.Name t ≡ true → IsNameText t.text
  literal : is_sign signs.Literal t ≡ true → list_all is_literal_byte t.text ≡ true
  address : is_sign signs.Address t ≡ true → begins_with 37 t.text ≡ true

put_bytes : (o : Option Class) (text : List ℕ) (left : ℕ) (ts : List Token) → (is_of signs.Name o ≡ true → IsNameText text) → (is_of signs.Literal o ≡ true → list_all is_literal_byte text ≡ true) → (is_of signs.Address o ≡ true → begins_with 37 text ≡ true) → AllByRecursion Bytes ts → AllByRecursion Bytes (put o text left ts)
put_bytes None text left ts name literal address all = all
put_bytes (Some classes.End) text left ts name literal address all = (record { name = name; literal = literal; address = address }, tt)
put_bytes (Some (classes.Broken f)) text left ts name literal address all = (record { name = name; literal = literal; address = address }, tt)
put_bytes (Some (classes.Sign x)) text left ts name literal address all = (record { name = name; literal = literal; address = address }, all)

bytes_known : (k : ℕ) (bytes : List ℕ) → AllByRecursion Bytes (tokens_behind dialects.Extended k bytes)
unfolding tokens_behind
bytes_known k [] = (record { name = λ e. absurd cc; literal = λ e. absurd cc; address = λ e. absurd cc }, tt)
bytes_known (suc k) (b ∷ bs) = bytes_known k bs
bytes_known zero (b ∷ bs) =
    let p = piece_of dialects.Extended (b ∷ bs) in
    put_bytes p.class (take p.len (b ∷ bs)) (length (b ∷ bs)) (tokens_behind dialects.Extended (p.len - 1) bs) (piece_fact b bs).name (piece_fact b bs).literal (piece_fact b bs).address (bytes_known (p.len - 1) bs)

-- each stands where it says: so many bytes before the end
abbrev Stands : List ℕ → Token → Type 0
Stands text t = first (tokens_of dialects.Extended (drop (length text - t.left) text)) ≡ t

from_there : (before bytes : List ℕ) → drop (length (before ++ bytes) - length bytes) (before ++ bytes) ≡ bytes
from_there before bytes =
    let n : length (before ++ bytes) ≡ length before + length bytes = length-append before bytes in
    let k : length (before ++ bytes) - length bytes ≡ length before = omega (arith, n) in
    drop_at before bytes (length (before ++ bytes) - length bytes) (sym k)

put_stands : (text bytes : List ℕ) (o : Option Class) (w : List ℕ) (ts : List Token) → drop (length text - length bytes) text ≡ bytes
    → tokens_of dialects.Extended bytes ≡ put o w (length bytes) ts → AllByRecursion (Stands text) ts → AllByRecursion (Stands text) (put o w (length bytes) ts)
put_stands text bytes None w ts there is all = all
put_stands text bytes (Some classes.End) w ts there is all = (ap (λ (xs : List ℕ). first (tokens_of dialects.Extended xs)) there ∙ ap first is, tt)
put_stands text bytes (Some (classes.Broken f)) w ts there is all = (ap (λ (xs : List ℕ). first (tokens_of dialects.Extended xs)) there ∙ ap first is, tt)
put_stands text bytes (Some (classes.Sign x)) w ts there is all = (ap (λ (xs : List ℕ). first (tokens_of dialects.Extended xs)) there ∙ ap first is, all)

end_stands : (text : List ℕ) → drop (length text - 0) text ≡ [] → Stands text (record { class = classes.End; text = []; left = 0 })
unfolding tokens_behind
end_stands text e = ap (λ (xs : List ℕ). first (tokens_of dialects.Extended xs)) e

stands_known : (text before : List ℕ) (k : ℕ) (bytes : List ℕ) → text ≡ before ++ bytes → AllByRecursion (Stands text) (tokens_behind dialects.Extended k bytes)
unfolding tokens_behind
stands_known text before k [] e = (end_stands text (ap (λ (xs : List ℕ). drop (length xs - 0) xs) e ∙ from_there before []), tt)
stands_known text before (suc k) (b ∷ bs) e = stands_known text (before ++ b ∷ []) k bs (e ∙ sym (append_assoc before (b ∷ []) bs))
stands_known text before zero (b ∷ bs) e =
    let p = piece_of dialects.Extended (b ∷ bs) in
    put_stands text (b ∷ bs) p.class (take p.len (b ∷ bs)) (tokens_behind dialects.Extended (p.len - 1) bs)
    (ap (λ (xs : List ℕ). drop (length xs - length (b ∷ bs)) xs) e ∙ from_there before (b ∷ bs)) refl (stands_known text (before ++ b ∷ []) (p.len - 1) bs (e ∙ sym (append_assoc before (b ∷ []) bs)))

together : (text : List ℕ) (ts : List Token) → AllByRecursion IsAgain ts → AllByRecursion Bytes ts → AllByRecursion (Stands text) ts → AllByRecursion (IsKnown text) ts
together text [] a b c = tt
together text (t ∷ ts) a b c = (record { again = a.0; name = b.0.name; literal = b.0.literal; address = b.0.address; place = c.0 }, together text ts a.1 b.1 c.1)

pub all_known : (text : List ℕ) → AllByRecursion (IsKnown text) (tokens_of dialects.Extended text)
all_known text = together text (tokens_of dialects.Extended text) (are_again text) (bytes_known 0 text) (stands_known text [] 0 text refl)

-- ---- the bytes of names

name_literal : (b : ℕ) (bs : List ℕ) → (is_word_byte b || (eqb b 46 && begins_letter bs)) ≡ true → is_literal_byte b ≡ true
name_literal b bs e = by_tests (is_word_byte b) (eqb b 35) (eqb b 46) (begins_letter bs) (eqb b 43) (eqb b 45) e
  where
    by_tests : (w h d l p m : Bool) → (w || (d && l)) ≡ true → ((((w || h) || d) || p) || m) ≡ true
    by_tests true h d l p m f = refl
    by_tests false true d l p m f = refl
    by_tests false false true l p m f = refl
    by_tests false false false l p m f = absurd cc

run_literals : (bs : List ℕ) → dotted_len bs ≡ length bs → list_all is_literal_byte bs ≡ true
run_literals [] e = refl
run_literals (b ∷ bs) e =
    let m = more_name b bs e in
    and_from (is_literal_byte b) (list_all is_literal_byte bs) (name_literal b bs m.0) (run_literals bs m.1)

pub name_literals : (w : List ℕ) → IsNameText w → list_all is_literal_byte w ≡ true
name_literals w is = ap (list_all is_literal_byte) is.parts ∙ and_from (is_literal_byte is.first) (list_all is_literal_byte is.others) (letter_literal is.first is.letter) (run_literals is.others is.whole)

-- ---- signs

name_is : (s : Sign) → same_sign signs.Name s ≡ true → s ≡ signs.Name
name_is signs.Name e = refl
name_is s e = absurd cc

literal_is : (s : Sign) → same_sign signs.Literal s ≡ true → s ≡ signs.Literal
literal_is signs.Literal e = refl
literal_is s e = absurd cc

address_is : (s : Sign) → same_sign signs.Address s ≡ true → s ≡ signs.Address
address_is signs.Address e = refl
address_is s e = absurd cc

ampersand_is : (s : Sign) → same_sign signs.Ampersand s ≡ true → s ≡ signs.Ampersand
ampersand_is signs.Ampersand e = refl
ampersand_is s e = absurd cc

close_is : (s : Sign) → same_sign signs.Close s ≡ true → s ≡ signs.Close
close_is signs.Close e = refl
close_is s e = absurd cc

class_by : (s : Sign) (c : Class) → ((u : Sign) → same_sign s u ≡ true → u ≡ s) → is_class_of s c ≡ true → c ≡ classes.Sign s
class_by s (classes.Sign u) same e = ap (λ (x : Sign). classes.Sign x) (same u e)
class_by s (classes.Broken f) same e = absurd cc
class_by s classes.End same e = absurd cc

pub name_class : (t : Token) → is_sign signs.Name t ≡ true → t.class ≡ classes.Sign signs.Name
name_class t e = class_by signs.Name t.class name_is e

pub ampersand_class : (t : Token) → is_sign signs.Ampersand t ≡ true → t.class ≡ classes.Sign signs.Ampersand
ampersand_class t e = class_by signs.Ampersand t.class ampersand_is e

pub close_class : (t : Token) → is_sign signs.Close t ≡ true → t.class ≡ classes.Sign signs.Close
close_class t e = class_by signs.Close t.class close_is e

pub name_again : (text : List ℕ) (t : Token) → IsKnown text t → is_sign signs.Name t ≡ true → IsOneToken t.text signs.Name
name_again text t known e = known.again signs.Name (class_by signs.Name t.class name_is e) tt

pub literal_again : (text : List ℕ) (t : Token) → IsKnown text t → is_sign signs.Literal t ≡ true → IsOneToken t.text signs.Literal
literal_again text t known e = known.again signs.Literal (class_by signs.Literal t.class literal_is e) tt

pub address_again : (text : List ℕ) (t : Token) → IsKnown text t → is_sign signs.Address t ≡ true → IsOneToken t.text signs.Address
address_again text t known e = known.again signs.Address (class_by signs.Address t.class address_is e) tt

pub ampersand_again : (text : List ℕ) (t : Token) → IsKnown text t → is_sign signs.Ampersand t ≡ true → IsOneToken t.text signs.Ampersand
ampersand_again text t known e = known.again signs.Ampersand (class_by signs.Ampersand t.class ampersand_is e) tt

pub close_again : (text : List ℕ) (t : Token) → IsKnown text t → is_sign signs.Close t ≡ true → IsOneToken t.text signs.Close
close_again text t known e = known.again signs.Close (class_by signs.Close t.class close_is e) tt
