-- The tokens of the listing's pieces.
use Rattle.std.proofs.Common.{◌≡◌, ℕ, suc, ◌+◌, ◌<◌, ◌≤◌, Bool, true, false, cond, eqb, List, [], ◌∷◌, ◌++◌, drop, length, refl, sym, ap, ◌∙◌, arith, ◌&&◌, ◌||◌, not}
use Rattle.std.specs.Prelude.{codes, ℤ, pos, negsuc, nat_lt, ◌/◌, ◌%◌}
use Rattle.std.specs.List.{list_all, list_any, prefix_len}
use Rattle.std.proofs.Math.Seq.{take-append_seam, drop-append_seam}
use Rattle.std.proofs.lemmas.Bool.{eqb-true, le-ltb}
use Rattle.il_model.specs.Dialects.{newest}
use Rattle.il_model.specs.declared.dialect.Dialect.{Dialect}
use Rattle.il_model.specs.declared.dialect.Dialect.TheVariants as dialects
use Rattle.il_model.specs.declared.codes.Version.TheVariants as versions
use Rattle.il_values.specs.declared.value.Value.{Value}
use Rattle.il_values.specs.declared.value.Value.TheVariants as values
use Rattle.il_model.specs.declared.program.Area.TheVariants as areas
use Rattle.il_model.specs.declared.program.Loc.{Loc}
use Rattle.il_model.specs.declared.program.Loc.TheVariants.{Bit, Word, Pattern, Double}
use Rattle.il_model.specs.Words.{is_first_byte, is_name_byte, is_well_spelled, is_dot, has_dot, name_parts}
use Rattle.il_model.specs.Image.{may_have, may_call}
use Rattle.il_real.specs.Texts.{real_text}
use Rattle.il_reader.specs.declared.lexeme.Sign.{Sign}
use Rattle.il_reader.specs.declared.lexeme.Sign.TheVariants as signs
use Rattle.il_reader.specs.declared.lexeme.Class.TheVariants as classes
use Rattle.il_reader.specs.declared.fault.FaultKind.TheVariants.{BadToken, TooLong}
use Rattle.il_reader.specs.Tokens.{is_within, is_letter_byte, is_word_byte, is_literal_byte, is_address_byte, begins_with, sign, broken, begins_letter, dotted_len, name_len, name_of, literal_piece, word_piece, is_word_end, sign_of, solid_piece, piece_of, tokens_behind, tokens_of}
use Rattle.il_reader.proofs.Tokens.{gives}
use Rattle.il_lister.specs.Listing.{decimal, number_text, literal_text, location_text}
use Rattle.il_values.specs.BitStrings.{hex_word, hex_double}
use Rattle.laws_listing.proofs.BitTexts.{word_bytes, double_word_bytes}
use Rattle.laws_listing.proofs.Fronts.{begins, both_true, not_true, prefix_whole, all_weaker, all_both}
use Rattle.laws_listing.proofs.Numerals.{is_digit, numeral}
use Rattle.laws_listing.proofs.Sayable.{IsSayable}
use Rattle.laws_listing.proofs.RealTexts.{literal_digit, real_so}
use Rattle.laws_listing.proofs.LiteralTexts.{literal_again}
use Rattle.laws_listing.proofs.NameRuns.{both_so, first_so, second_so, is_run, parts_begin, parts_run, run_byte, plain_run, well_spelled, none_long}
use Rattle.laws_listing.proofs.NameTexts.{IsWord, word_by, IsName, at_most_long, word_name}
use Rattle.laws_listing.proofs.Written.{token_at, literal_at}

-- ---- a word before what ends it

solid_token : (dialect : Dialect) (s : Sign) (w rest : List ℕ) → 0 < length w → piece_of dialect (w ++ rest) ≡ sign s (length w) → tokens_of dialect (w ++ rest) ≡ token_at s w rest ∷ tokens_of dialect rest
solid_token dialect s w rest more e =
    gives dialect (w ++ rest) w rest (sign s (length w)) (classes.Sign s) (sym e) (λ any. more) refl (sym (take-append_seam w rest)) (sym (drop-append_seam w rest))

-- ---- names

pub byte_not : (p : ℕ → Bool) (k b : ℕ) → p k ≡ false → p b ≡ true → eqb b k ≡ false
byte_not p k b lacks is = by_test (eqb b k) refl
  where
    by_test : (t : Bool) → eqb b k ≡ t → t ≡ false
    by_test false e = refl
    by_test true e = let clash : true ≡ false = sym is ∙ ap p (eqb-true b k e) ∙ lacks in absurd cc

first_letter : (b : ℕ) → is_first_byte b ≡ true → is_letter_byte b ≡ true
first_letter b is = by_tests (is_within 65 90 b) (is_within 97 122 b) (eqb b 95) is
  where
    by_tests : (p q r : Bool) → (p || r) ≡ true → ((p || q) || r) ≡ true
    by_tests true q r e = refl
    by_tests false true r e = refl
    by_tests false false r e = e

name_word : (b : ℕ) → is_name_byte b ≡ true → is_word_byte b ≡ true
name_word b is = by_tests (is_within 65 90 b) (is_within 97 122 b) (eqb b 95) (is_within 48 57 b) is
  where
    by_tests : (p q r s : Bool) → ((p || r) || s) ≡ true → (((p || q) || r) || s) ≡ true
    by_tests true q r s e = refl
    by_tests false true r s e = refl
    by_tests false false r s e = e

word_ends : (rest : List ℕ) → is_word_end rest ≡ true → begins is_word_byte rest ≡ false
word_ends [] e = refl
word_ends (b ∷ bs) e = by_test (is_word_byte b) refl e
  where
    by_test : (t : Bool) → is_word_byte b ≡ t → cond t false (cond (eqb b 35) false true) ≡ true → t ≡ false
    by_test false f h = refl
    by_test true f h = absurd cc

no_hash_next : (rest : List ℕ) → is_word_end rest ≡ true → begins_with 35 rest ≡ false
no_hash_next [] e = refl
no_hash_next (b ∷ bs) e = by_tests (is_word_byte b) (eqb b 35) e
  where
    by_tests : (p q : Bool) → cond p false (cond q false true) ≡ true → q ≡ false
    by_tests p false h = refl
    by_tests true true h = absurd cc
    by_tests false true h = absurd cc

-- and neither a dot
abbrev pub is_name_end : List ℕ → Bool
is_name_end rest = is_word_end rest && not (begins_with 46 rest)

named_by : (w : List ℕ) (ps : List (List ℕ)) → list_all is_well_spelled ps ≡ true → list_any (λ part. nat_lt 32 (length part)) ps ≡ false → length w ≤ 96
    → cond (list_all is_well_spelled ps) (cond (nat_lt 96 (length w) || list_any (λ part. nat_lt 32 (length part)) ps) (broken TooLong) (sign signs.Name (length w))) (broken BadToken) ≡ sign signs.Name (length w)
named_by w ps spelled short le = rw (spelled, le-ltb 96 (length w) le, short) refl

name_of_is : (dialect : Dialect) (w : List ℕ) → IsName dialect w → name_of w ≡ sign signs.Name (length w)
unfolding name_of
name_of_is dialect w is =
    let short = is.short in
    let most = at_most_long dialect in
    named_by w (name_parts w) (well_spelled (name_parts w) is.parts) (none_long (name_parts w) is.parts) (omega (arith, short, most))

-- ---- how far a name goes

stops_here : (rest : List ℕ) → is_word_end rest ≡ true → prefix_len is_word_byte rest ≡ 0
stops_here [] e = refl
stops_here (b ∷ bs) e = rw (word_ends (b ∷ bs) e) refl

letter_begins : (bs rest : List ℕ) → begins is_first_byte bs ≡ true → begins_letter (bs ++ rest) ≡ true
letter_begins [] rest e = absurd cc
letter_begins (b ∷ bs) rest e = first_letter b e

dotted_ends : (rest : List ℕ) → is_name_end rest ≡ true → dotted_len rest ≡ 0
unfolding dotted_len
dotted_ends [] e = refl
dotted_ends (b ∷ bs) e =
    let h = both_true (is_word_end (b ∷ bs)) (not (eqb b 46)) e in
    rw (word_ends (b ∷ bs) h.0, not_true (eqb b 46) h.1) refl

taken : (b : ℕ) (bs rest : List ℕ) → (is_name_byte b || (is_dot b && begins is_first_byte bs)) ≡ true → (is_word_byte b || (eqb b 46 && begins_letter (bs ++ rest))) ≡ true
taken b bs rest e = by_name (is_name_byte b) refl e
  where
    by_name : (n : Bool) → is_name_byte b ≡ n → (n || (is_dot b && begins is_first_byte bs)) ≡ true → (is_word_byte b || (eqb b 46 && begins_letter (bs ++ rest))) ≡ true
    by_name true f h = first_so (is_word_byte b) (eqb b 46 && begins_letter (bs ++ rest)) (name_word b f)
    by_name false f h =
        let d = both_true (is_dot b) (begins is_first_byte bs) h in
        second_so (is_word_byte b) (eqb b 46 && begins_letter (bs ++ rest)) (both_so (eqb b 46) (begins_letter (bs ++ rest)) d.0 (letter_begins bs rest d.1))

dotted_whole : (bs rest : List ℕ) → is_run bs ≡ true → is_name_end rest ≡ true → dotted_len (bs ++ rest) ≡ length bs
unfolding dotted_len
dotted_whole [] rest run ends = dotted_ends rest ends
dotted_whole (b ∷ bs) rest run ends =
    let h = both_true (is_name_byte b || (is_dot b && begins is_first_byte bs)) (is_run bs) run in
    rw (taken b bs rest h.0, dotted_whole bs rest h.1 ends) refl

-- behind the first word of a name stands no #
no_hash : (bs rest : List ℕ) → is_run bs ≡ true → is_word_end rest ≡ true → begins_with 35 (drop (prefix_len is_word_byte (bs ++ rest)) (bs ++ rest)) ≡ false
no_hash [] rest run ends = rw (stops_here rest ends) (no_hash_next rest ends)
no_hash (b ∷ bs) rest run ends =
    let h = both_true (is_name_byte b || (is_dot b && begins is_first_byte bs)) (is_run bs) run in
    by_word (is_word_byte b) refl (run_byte b bs h.0) (no_hash bs rest h.1 ends)
  where
    by_word : (t : Bool) → is_word_byte b ≡ t → (is_name_byte b || is_dot b) ≡ true → begins_with 35 (drop (prefix_len is_word_byte (bs ++ rest)) (bs ++ rest)) ≡ false
        → begins_with 35 (drop (cond t (1 + prefix_len is_word_byte (bs ++ rest)) 0) (b ∷ (bs ++ rest))) ≡ false
    by_word true e f again =
        let more : 1 + prefix_len is_word_byte (bs ++ rest) ≡ suc (prefix_len is_word_byte (bs ++ rest)) = omega arith in
        rw more again
    by_word false e f again = by_name (is_name_byte b) refl f
      where
        by_name : (n : Bool) → is_name_byte b ≡ n → (n || is_dot b) ≡ true → eqb b 35 ≡ false
        by_name true g k = let clash : false ≡ true = sym e ∙ name_word b g in absurd cc
        by_name false g k = ap (λ (c : ℕ). eqb c 35) (eqb-true b 46 k)

-- what ends a name in a text of a dialect
abbrev EndsName : Dialect → List ℕ → Type 0
EndsName dialects.Plain rest = is_word_end rest ≡ true
EndsName dialects.Extended rest = is_name_end rest ≡ true

word_end : (dialect : Dialect) (rest : List ℕ) → EndsName dialect rest → is_word_end rest ≡ true
word_end dialects.Plain rest ends = ends
word_end dialects.Extended rest ends = (both_true (is_word_end rest) (not (begins_with 46 rest)) ends).0

name_end : (dialect : Dialect) (rest : List ℕ) → is_name_end rest ≡ true → EndsName dialect rest
name_end dialects.Plain rest ends = (both_true (is_word_end rest) (not (begins_with 46 rest)) ends).0
name_end dialects.Extended rest ends = ends

-- a plain text says no dots
plain_name : (w : List ℕ) → may_call (newest dialects.Plain) w ≡ true → has_dot w ≡ false
plain_name w may = by_dot (has_dot w) may
  where
    by_dot : (d : Bool) → may_have versions.Two (cond d versions.Three versions.One) ≡ true → d ≡ false
    by_dot true e = absurd cc
    by_dot false e = refl

goes_on : (dialect : Dialect) (b : ℕ) (bs rest : List ℕ) → IsName dialect (b ∷ bs) → EndsName dialect rest → name_len dialect (bs ++ rest) ≡ length bs
goes_on dialects.Plain b bs rest is ends =
    let bytes = plain_run (b ∷ bs) (parts_run (b ∷ bs) is.parts) (plain_name (b ∷ bs) is.known) in
    let behind = (both_true (is_name_byte b) (list_all is_name_byte bs) bytes).1 in
    prefix_whole is_word_byte bs rest (all_weaker is_name_byte is_word_byte name_word bs behind) (word_ends rest ends)
goes_on dialects.Extended b bs rest is ends =
    let run = parts_run (b ∷ bs) is.parts in
    dotted_whole bs rest (both_true (is_name_byte b || (is_dot b && begins is_first_byte bs)) (is_run bs) run).1 ends

word_name_piece : (dialect : Dialect) (b : ℕ) (bs rest : List ℕ) → IsName dialect (b ∷ bs) → EndsName dialect rest → word_piece dialect (b ∷ (bs ++ rest)) ≡ sign signs.Name (length (b ∷ bs))
unfolding word_piece
word_name_piece dialect b bs rest is ends =
    let run = both_true (is_name_byte b || (is_dot b && begins is_first_byte bs)) (is_run bs) (parts_run (b ∷ bs) is.parts) in
    let behind : 1 + prefix_len is_word_byte (bs ++ rest) ≡ suc (prefix_len is_word_byte (bs ++ rest)) = omega arith in
    let more : 1 + length bs ≡ suc (length bs) = omega arith in
    rw (behind, no_hash bs rest run.1 (word_end dialect rest ends), goes_on dialect b bs rest is ends, more, take-append_seam bs rest) (name_of_is dialect (b ∷ bs) is)

name_piece : (dialect : Dialect) (b : ℕ) (bs rest : List ℕ) → IsName dialect (b ∷ bs) → EndsName dialect rest → piece_of dialect (b ∷ (bs ++ rest)) ≡ sign signs.Name (length (b ∷ bs))
unfolding piece_of solid_piece
name_piece dialect b bs rest is ends =
    let letter : is_letter_byte b ≡ true = first_letter b (parts_begin (b ∷ bs) is.parts) in
    rw (byte_not is_letter_byte 10 b refl letter, byte_not is_letter_byte 32 b refl letter, byte_not is_letter_byte 9 b refl letter, byte_not is_letter_byte 13 b refl letter, byte_not is_letter_byte 40 b refl letter, letter)
    (word_name_piece dialect b bs rest is ends)

name_there : (dialect : Dialect) (w rest : List ℕ) → IsName dialect w → EndsName dialect rest → tokens_of dialect (w ++ rest) ≡ token_at signs.Name w rest ∷ tokens_of dialect rest
name_there dialect [] rest is ends = let none : false ≡ true = parts_begin [] is.parts in absurd cc
name_there dialect (b ∷ bs) rest is ends = solid_token dialect signs.Name (b ∷ bs) rest (omega arith) (name_piece dialect b bs rest is ends)

pub name_token : (dialect : Dialect) (w rest : List ℕ) → IsName dialect w → is_name_end rest ≡ true → tokens_of dialect (w ++ rest) ≡ token_at signs.Name w rest ∷ tokens_of dialect rest
name_token dialect w rest is ends = name_there dialect w rest is (name_end dialect rest ends)

-- in a plain text a dot ends a name too
pub plain_token : (w rest : List ℕ) → IsName dialects.Plain w → is_word_end rest ≡ true → tokens_of dialects.Plain (w ++ rest) ≡ token_at signs.Name w rest ∷ tokens_of dialects.Plain rest
plain_token w rest is ends = name_there dialects.Plain w rest is ends

-- one of the language's own words
pub word_token : (dialect : Dialect) (w rest : List ℕ) → IsWord w → is_name_end rest ≡ true → tokens_of dialect (w ++ rest) ≡ token_at signs.Name w rest ∷ tokens_of dialect rest
word_token dialect w rest is ends = name_token dialect w rest (word_name dialect w is) ends

-- ---- literals

number_bytes : (z : ℤ) → list_all is_literal_byte (number_text z) ≡ true
number_bytes (pos n) = all_weaker is_digit is_literal_byte literal_digit (decimal n) (numeral n).bytes
number_bytes (negsuc n) = all_weaker is_digit is_literal_byte literal_digit (decimal (suc n)) (numeral (suc n)).bytes

literal_is : (dialect : Dialect) (v : Value) → IsSayable dialect v → literal_piece dialect (literal_text v) ≡ sign signs.Literal (length (literal_text v))
unfolding literal_piece
literal_is dialect v is = rw (literal_again dialect v is) refl

int_piece : (dialect : Dialect) (t rest : List ℕ) → list_all is_literal_byte t ≡ true → begins is_literal_byte rest ≡ false → piece_of dialect (codes "INT#" ++ (t ++ rest)) ≡ literal_piece dialect (codes "INT#" ++ t)
unfolding piece_of solid_piece word_piece
int_piece dialect t rest all ends =
    let front = prefix_whole is_literal_byte t rest all ends in
    let more : 1 + (1 + (1 + (1 + length t))) ≡ suc (suc (suc (suc (length t)))) = omega arith in
    rw (front, more, take-append_seam t rest) refl

dint_piece : (dialect : Dialect) (t rest : List ℕ) → list_all is_literal_byte t ≡ true → begins is_literal_byte rest ≡ false → piece_of dialect (codes "DINT#" ++ (t ++ rest)) ≡ literal_piece dialect (codes "DINT#" ++ t)
unfolding piece_of solid_piece word_piece
dint_piece dialect t rest all ends =
    let front = prefix_whole is_literal_byte t rest all ends in
    let more : 1 + (1 + (1 + (1 + (1 + length t)))) ≡ suc (suc (suc (suc (suc (length t))))) = omega arith in
    rw (front, more, take-append_seam t rest) refl

lint_piece : (dialect : Dialect) (t rest : List ℕ) → list_all is_literal_byte t ≡ true → begins is_literal_byte rest ≡ false → piece_of dialect (codes "LINT#" ++ (t ++ rest)) ≡ literal_piece dialect (codes "LINT#" ++ t)
unfolding piece_of solid_piece word_piece
lint_piece dialect t rest all ends =
    let front = prefix_whole is_literal_byte t rest all ends in
    let more : 1 + (1 + (1 + (1 + (1 + length t)))) ≡ suc (suc (suc (suc (suc (length t))))) = omega arith in
    rw (front, more, take-append_seam t rest) refl

time_piece : (dialect : Dialect) (t rest : List ℕ) → list_all is_literal_byte t ≡ true → begins is_literal_byte rest ≡ false → piece_of dialect (codes "T#" ++ (t ++ rest)) ≡ literal_piece dialect (codes "T#" ++ t)
unfolding piece_of solid_piece word_piece
time_piece dialect t rest all ends =
    let front = prefix_whole is_literal_byte t rest all ends in
    let more : 1 + (1 + length t) ≡ suc (suc (length t)) = omega arith in
    rw (front, more, take-append_seam t rest) refl

true_is : IsWord (codes "TRUE")
unfolding is_well_spelled
true_is = word_by _ refl

false_is : IsWord (codes "FALSE")
unfolding is_well_spelled
false_is = word_by _ refl

-- what ends an operand: no byte of a name, of a literal or of an address
pub record EndsOperand (rest : List ℕ) : Type 0 where
  pub word : is_name_end rest ≡ true
  pub literal : begins is_literal_byte rest ≡ false
  pub address : begins is_address_byte rest ≡ false

real_piece : (dialect : Dialect) (t rest : List ℕ) → list_all is_literal_byte t ≡ true → begins is_literal_byte rest ≡ false → piece_of dialect (codes "REAL#" ++ (t ++ rest)) ≡ literal_piece dialect (codes "REAL#" ++ t)
unfolding piece_of solid_piece word_piece
real_piece dialect t rest all ends =
    let front = prefix_whole is_literal_byte t rest all ends in
    let more : 1 + (1 + (1 + (1 + (1 + length t)))) ≡ suc (suc (suc (suc (suc (length t))))) = omega arith in
    rw (front, more, take-append_seam t rest) refl

bits_piece : (dialect : Dialect) (t rest : List ℕ) → list_all is_literal_byte t ≡ true → begins is_literal_byte rest ≡ false → piece_of dialect (codes "WORD#" ++ (t ++ rest)) ≡ literal_piece dialect (codes "WORD#" ++ t)
unfolding piece_of solid_piece word_piece
bits_piece dialect t rest all ends =
    let front = prefix_whole is_literal_byte t rest all ends in
    let more : 1 + (1 + (1 + (1 + (1 + length t)))) ≡ suc (suc (suc (suc (suc (length t))))) = omega arith in
    rw (front, more, take-append_seam t rest) refl

double_bits_piece : (dialect : Dialect) (t rest : List ℕ) → list_all is_literal_byte t ≡ true → begins is_literal_byte rest ≡ false → piece_of dialect (codes "DWORD#" ++ (t ++ rest)) ≡ literal_piece dialect (codes "DWORD#" ++ t)
unfolding piece_of solid_piece word_piece
double_bits_piece dialect t rest all ends =
    let front = prefix_whole is_literal_byte t rest all ends in
    let more : 1 + (1 + (1 + (1 + (1 + (1 + length t))))) ≡ suc (suc (suc (suc (suc (suc (length t)))))) = omega arith in
    rw (front, more, take-append_seam t rest) refl

pub literal_token : (dialect : Dialect) (v : Value) (rest : List ℕ) → IsSayable dialect v → EndsOperand rest → tokens_of dialect (literal_text v ++ rest) ≡ literal_at v rest ∷ tokens_of dialect rest
literal_token dialect (values.Bool true) rest is ends = word_token dialect (codes "TRUE") rest true_is ends.word
literal_token dialect (values.Bool false) rest is ends = word_token dialect (codes "FALSE") rest false_is ends.word
literal_token dialect (values.Int z) rest is ends = solid_token dialect signs.Literal (literal_text (values.Int z)) rest (omega arith) (int_piece dialect (number_text z) rest (number_bytes z) ends.literal ∙ literal_is dialect (values.Int z) is)
literal_token dialect (values.Dint z) rest is ends = solid_token dialect signs.Literal (literal_text (values.Dint z)) rest (omega arith) (dint_piece dialect (number_text z) rest (number_bytes z) ends.literal ∙ literal_is dialect (values.Dint z) is)
literal_token dialect (values.Lint z) rest is ends = solid_token dialect signs.Literal (literal_text (values.Lint z)) rest (omega arith) (lint_piece dialect (number_text z) rest (number_bytes z) ends.literal ∙ literal_is dialect (values.Lint z) is)
literal_token dialect (values.Time z) rest is ends =
    let t = number_text z ++ codes "ms" in
    solid_token dialect signs.Literal (literal_text (values.Time z)) rest (omega arith) (time_piece dialect t rest (all_both is_literal_byte (number_text z) (codes "ms") (number_bytes z) refl) ends.literal ∙ literal_is dialect (values.Time z) is)
literal_token dialect (values.Real r) rest is ends = solid_token dialect signs.Literal (literal_text (values.Real r)) rest (omega arith) (real_piece dialect (real_text r) rest (real_so r).bytes ends.literal ∙ literal_is dialect (values.Real r) is)
literal_token dialect (values.Word n) rest is ends = solid_token dialect signs.Literal (literal_text (values.Word n)) rest (omega arith) (bits_piece dialect (codes "16#" ++ hex_word n) rest (word_bytes n) ends.literal ∙ literal_is dialect (values.Word n) is)
literal_token dialect (values.Dword n) rest is ends = solid_token dialect signs.Literal (literal_text (values.Dword n)) rest (omega arith) (double_bits_piece dialect (codes "16#" ++ hex_double n) rest (double_word_bytes n) ends.literal ∙ literal_is dialect (values.Dword n) is)

-- ---- addresses

address_digit : (b : ℕ) → is_digit b ≡ true → is_address_byte b ≡ true
address_digit b is = by_letter (is_letter_byte b) is
  where
    by_letter : (p : Bool) → is_digit b ≡ true → (p || is_within 48 57 b || eqb b 46) ≡ true
    by_letter true h = refl
    by_letter false h = rw h refl

address_number : (n : ℕ) → list_all is_address_byte (decimal n) ≡ true
address_number n = all_weaker is_digit is_address_byte address_digit (decimal n) (numeral n).bytes

address_piece : (dialect : Dialect) (t rest : List ℕ) → list_all is_address_byte t ≡ true → begins is_address_byte rest ≡ false → piece_of dialect (37 ∷ (t ++ rest)) ≡ sign signs.Address (length (37 ∷ t))
unfolding piece_of solid_piece
address_piece dialect t rest all ends =
    let front = prefix_whole is_address_byte t rest all ends in
    let more : 1 + length t ≡ suc (length t) = omega arith in
    rw (front, more) refl

address_token : (dialect : Dialect) (t rest : List ℕ) → list_all is_address_byte t ≡ true → EndsOperand rest → tokens_of dialect (37 ∷ (t ++ rest)) ≡ token_at signs.Address (37 ∷ t) rest ∷ tokens_of dialect rest
address_token dialect t rest all ends = solid_token dialect signs.Address (37 ∷ t) rest (omega arith) (address_piece dialect t rest all ends.address)

bit_bytes : (n : ℕ) → list_all is_address_byte (codes "X" ++ (decimal (n / 8) ++ (codes "." ++ decimal (n % 8)))) ≡ true
bit_bytes n = all_both is_address_byte (decimal (n / 8)) (codes "." ++ decimal (n % 8)) (address_number (n / 8)) (address_number (n % 8))

pub location_token : (dialect : Dialect) (loc : Loc) (rest : List ℕ) → EndsOperand rest → tokens_of dialect (location_text loc ++ rest) ≡ token_at signs.Address (location_text loc) rest ∷ tokens_of dialect rest
location_token dialect (Bit areas.Input n) rest ends = address_token dialect (codes "IX" ++ (decimal (n / 8) ++ (codes "." ++ decimal (n % 8)))) rest (bit_bytes n) ends
location_token dialect (Bit areas.Output n) rest ends = address_token dialect (codes "QX" ++ (decimal (n / 8) ++ (codes "." ++ decimal (n % 8)))) rest (bit_bytes n) ends
location_token dialect (Bit areas.Memory n) rest ends = address_token dialect (codes "MX" ++ (decimal (n / 8) ++ (codes "." ++ decimal (n % 8)))) rest (bit_bytes n) ends
location_token dialect (Word areas.Input n) rest ends = address_token dialect (codes "IW" ++ decimal n) rest (address_number n) ends
location_token dialect (Word areas.Output n) rest ends = address_token dialect (codes "QW" ++ decimal n) rest (address_number n) ends
location_token dialect (Word areas.Memory n) rest ends = address_token dialect (codes "MW" ++ decimal n) rest (address_number n) ends
location_token dialect (Pattern areas.Input n) rest ends = address_token dialect (codes "IW" ++ decimal n) rest (address_number n) ends
location_token dialect (Pattern areas.Output n) rest ends = address_token dialect (codes "QW" ++ decimal n) rest (address_number n) ends
location_token dialect (Pattern areas.Memory n) rest ends = address_token dialect (codes "MW" ++ decimal n) rest (address_number n) ends
location_token dialect (Double areas.Input n t) rest ends = address_token dialect (codes "ID" ++ decimal n) rest (address_number n) ends
location_token dialect (Double areas.Output n t) rest ends = address_token dialect (codes "QD" ++ decimal n) rest (address_number n) ends
location_token dialect (Double areas.Memory n t) rest ends = address_token dialect (codes "MD" ++ decimal n) rest (address_number n) ends

-- ---- signs and white space

pub blank_skips : (dialect : Dialect) (rest : List ℕ) → tokens_of dialect (32 ∷ rest) ≡ tokens_of dialect rest
unfolding tokens_behind piece_of
blank_skips dialect rest = refl

pub break_token : (dialect : Dialect) (rest : List ℕ) → tokens_of dialect (10 ∷ rest) ≡ token_at signs.Break (10 ∷ []) rest ∷ tokens_of dialect rest
unfolding tokens_behind piece_of
break_token dialect rest = refl

pub colon_token : (dialect : Dialect) (rest : List ℕ) → begins_with 61 rest ≡ false → tokens_of dialect (58 ∷ rest) ≡ token_at signs.Colon (58 ∷ []) rest ∷ tokens_of dialect rest
unfolding tokens_behind piece_of solid_piece sign_of
colon_token dialect rest other = rw other refl

pub assign_token : (dialect : Dialect) (rest : List ℕ) → tokens_of dialect (58 ∷ 61 ∷ rest) ≡ token_at signs.Assign (58 ∷ 61 ∷ []) rest ∷ tokens_of dialect rest
unfolding tokens_behind piece_of solid_piece sign_of
assign_token dialect rest = refl

pub arrow_token : (dialect : Dialect) (rest : List ℕ) → tokens_of dialect (61 ∷ 62 ∷ rest) ≡ token_at signs.Arrow (61 ∷ 62 ∷ []) rest ∷ tokens_of dialect rest
unfolding tokens_behind piece_of solid_piece sign_of
arrow_token dialect rest = refl

pub comma_token : (dialect : Dialect) (rest : List ℕ) → tokens_of dialect (44 ∷ rest) ≡ token_at signs.Comma (44 ∷ []) rest ∷ tokens_of dialect rest
unfolding tokens_behind piece_of solid_piece sign_of
comma_token dialect rest = refl

pub semicolon_token : (dialect : Dialect) (rest : List ℕ) → tokens_of dialect (59 ∷ rest) ≡ token_at signs.Semicolon (59 ∷ []) rest ∷ tokens_of dialect rest
unfolding tokens_behind piece_of solid_piece sign_of
semicolon_token dialect rest = refl

pub open_token : (dialect : Dialect) (rest : List ℕ) → begins_with 42 rest ≡ false → tokens_of dialect (40 ∷ rest) ≡ token_at signs.Open (40 ∷ []) rest ∷ tokens_of dialect rest
unfolding tokens_behind piece_of solid_piece sign_of
open_token dialect rest other = rw other refl

pub close_token : (dialect : Dialect) (rest : List ℕ) → tokens_of dialect (41 ∷ rest) ≡ token_at signs.Close (41 ∷ []) rest ∷ tokens_of dialect rest
unfolding tokens_behind piece_of solid_piece sign_of
close_token dialect rest = refl

pub dot_token : (dialect : Dialect) (rest : List ℕ) → tokens_of dialect (46 ∷ rest) ≡ token_at signs.Dot (46 ∷ []) rest ∷ tokens_of dialect rest
unfolding tokens_behind piece_of solid_piece sign_of
dot_token dialect rest = refl
