-- The listing of a literal is read as the literal.
use Rattle.std.proofs.Common.{◌≡◌, ℕ, suc, ◌*◌, ◌^◌, ◌≤◌, true, false, eqb, ltb, leb, List, [], ◌∷◌, ◌++◌, length, Option, Some, refl, sym, ap, ◌∙◌, arith}
use Rattle.std.specs.Prelude.{ℤ, pos, negsuc, codes, option_map}
use Rattle.std.specs.List.{list_all, prefix_len}
use Rattle.std.specs.Option.{option_and_then}
use Rattle.std.proofs.lemmas.Bool.{lt-ltb, le-ltb, leb-true, ne_eqb}
use Rattle.std.proofs.lemmas.List.{append-nil}
use Rattle.std.proofs.Math.Seq.{take-append_seam, drop-append_seam}
use Rattle.il_model.specs.declared.dialect.Dialect.{Dialect}
use Rattle.il_model.specs.declared.dialect.Dialect.TheVariants as dialects
use Rattle.il_values.specs.declared.value.Ty.TheVariants as types
use Rattle.il_values.specs.declared.value.Value.{Value}
use Rattle.il_values.specs.declared.value.Value.TheVariants as values
use Rattle.il_model.specs.declared.literal.Literal.TheVariants.{Typed}
use Rattle.il_values.specs.Spelled.{spells}
use Rattle.il_model.specs.Literals.{integer_of, is_digit_byte, digits_len, behind_number, part_by, sum_of_parts}
use Rattle.il_model.specs.Literals.{parts_by, duration_by, is_no_hash, hash_at, positive, minus, signed_by, whole_by}
use Rattle.il_model.specs.Literals.{time_by, typed_literal, literal_of, typed_real, extended_literal_of}
use Rattle.il_model.specs.Image.{may_keep}
use Rattle.il_model.specs.Dialects.{literal_in, newest}
use Rattle.il_real.specs.Literals.{real_literal}
use Rattle.il_real.specs.Texts.{real_text}
use Rattle.il_real.proofs.Texts.{reads_back}
use Rattle.il_model.proofs.LiteralLaws.{IsValue}
use Rattle.il_values.specs.BitStrings.{hex_word, hex_double}
use Rattle.il_values.proofs.BitValues.{bits_small}
use Rattle.laws_listing.proofs.BitTexts.{word_whole, double_word_whole}
use Rattle.il_lister.specs.Listing.{decimal, number_text, literal_text}
use Rattle.laws_listing.proofs.Fronts.{both_true, prefix_whole, all_weaker}
use Rattle.laws_listing.proofs.Sayable.{IsSayable}
use Rattle.laws_listing.proofs.Numerals.{is_digit, IsNumeral, numeral}

digit_between : (b : ℕ) → is_digit b ≡ true → (48 ≤ b) × (b ≤ 57)
digit_between b is =
    let h = both_true (leb 48 b) (leb b 57) is in
    (leb-true 48 b h.0, leb-true b 57 h.1)

pub digit_is_not : (k b : ℕ) → (48 ≤ k → k ≤ 57 → ⊥) → is_digit b ≡ true → eqb b k ≡ false
digit_is_not k b other is =
    let d = digit_between b is in
    ne_eqb b k (λ e. other (omega (arith, e, d.0)) (omega (arith, e, d.1)))

-- ---- whole numbers

no_hash_digit : (b : ℕ) → is_digit b ≡ true → is_no_hash b ≡ true
no_hash_digit b is = rw (digit_is_not 35 b (λ low high. omega arith) is) refl

no_hash : (w : List ℕ) → list_all is_no_hash w ≡ true → hash_at w ≡ length w
no_hash w all = ap (prefix_len is_no_hash) (sym (append-nil w)) ∙ prefix_whole is_no_hash w [] all refl

signed : (n : ℕ) (w : List ℕ) → IsNumeral n w → signed_by integer_of w ≡ Some (pos n)
signed n [] is = let none : false ≡ true = is.some in absurd cc
signed n (b ∷ bs) is = rw (digit_is_not 45 b (λ low high. omega arith) is.some, digit_is_not 43 b (λ low high. omega arith) is.some, is.reads) refl

whole_signed : (w : List ℕ) → list_all is_no_hash w ≡ true → whole_by integer_of w ≡ signed_by integer_of w
whole_signed w all =
    let e : ltb (hash_at w) (length w) ≡ false = le-ltb (hash_at w) (length w) (omega (arith, no_hash w all)) in
    rw e refl

digits_no_hash : (n : ℕ) (w : List ℕ) → IsNumeral n w → list_all is_no_hash w ≡ true
digits_no_hash n w is = all_weaker is_digit is_no_hash no_hash_digit w is.bytes

whole_number : (z : ℤ) → whole_by integer_of (number_text z) ≡ Some z
whole_number (pos n) =
    let is = numeral n in
    whole_signed (decimal n) (digits_no_hash n (decimal n) is) ∙ signed n (decimal n) is
whole_number (negsuc n) =
    let is = numeral (suc n) in
    let all : list_all is_no_hash (45 ∷ decimal (suc n)) ≡ true = digits_no_hash (suc n) (decimal (suc n)) is in
    whole_signed (45 ∷ decimal (suc n)) all ∙ ap (option_map minus) is.reads

-- ---- durations

abbrev ms : List ℕ
ms = codes "ms"

duration_digit : (b : ℕ) → is_digit b ≡ true → is_digit_byte b ≡ true
duration_digit b is = rw is refl

digits_front : (n : ℕ) (w : List ℕ) → IsNumeral n w → digits_len (w ++ ms) ≡ length w
digits_front n w is = prefix_whole is_digit_byte w ms (all_weaker is_digit is_digit_byte duration_digit w is.bytes) refl

abbrev in_milliseconds : ℕ → Option ℕ
in_milliseconds n = option_and_then (sum_of_parts (parts_by integer_of 4) 5) (behind_number ms n)

at_ms : (n : ℕ) → in_milliseconds n ≡ Some (n * 1)
unfolding spells
at_ms n = refl

duration_number : (n : ℕ) (w : List ℕ) → IsNumeral n w → duration_by integer_of (w ++ ms) ≡ Some n
unfolding parts_by part_by
duration_number n w is =
    let one : n * 1 ≡ n = omega arith in
    rw (digits_front n w is, take-append_seam w ms, drop-append_seam w ms, is.reads) (at_ms n ∙ ap (λ (k : ℕ). Some k) one)

time_positive : (n : ℕ) (w : List ℕ) → IsNumeral n w → time_by integer_of (w ++ ms) ≡ Some (pos n)
time_positive n [] is = let none : false ≡ true = is.some in absurd cc
time_positive n (b ∷ bs) is = rw (digit_is_not 45 b (λ low high. omega arith) is.some) (ap (option_map positive) (duration_number n (b ∷ bs) is))

time_number : (z : ℤ) → time_by integer_of (number_text z ++ ms) ≡ Some z
time_number (pos n) = time_positive n (decimal n) (numeral n)
time_number (negsuc n) = ap (option_map minus) (duration_number (suc n) (decimal (suc n)) (numeral (suc n)))

-- ---- literals

behind_int : (t : List ℕ) → literal_of (codes "INT#" ++ t) ≡ typed_literal types.Int (whole_by integer_of t)
unfolding literal_of spells
behind_int t = let e : ltb 3 (length (codes "INT#" ++ t)) ≡ true = lt-ltb 3 (length (codes "INT#" ++ t)) (omega arith) in rw e refl

behind_dint : (t : List ℕ) → literal_of (codes "DINT#" ++ t) ≡ typed_literal types.Dint (whole_by integer_of t)
unfolding literal_of spells
behind_dint t = let e : ltb 4 (length (codes "DINT#" ++ t)) ≡ true = lt-ltb 4 (length (codes "DINT#" ++ t)) (omega arith) in rw e refl

behind_lint : (t : List ℕ) → literal_of (codes "LINT#" ++ t) ≡ typed_literal types.Lint (whole_by integer_of t)
unfolding literal_of spells
behind_lint t = let e : ltb 4 (length (codes "LINT#" ++ t)) ≡ true = lt-ltb 4 (length (codes "LINT#" ++ t)) (omega arith) in rw e refl

behind_time : (t : List ℕ) → literal_of (codes "T#" ++ t) ≡ typed_literal types.Time (time_by integer_of t)
unfolding literal_of spells
behind_time t = let e : ltb 1 (length (codes "T#" ++ t)) ≡ true = lt-ltb 1 (length (codes "T#" ++ t)) (omega arith) in rw e refl

literal_plain : (v : Value) → IsSayable dialects.Plain v → literal_of (literal_text v) ≡ Some (Typed v)
unfolding literal_of spells
literal_plain (values.Bool true) is = refl
literal_plain (values.Bool false) is = refl
literal_plain (values.Int z) is = behind_int (number_text z) ∙ ap (typed_literal types.Int) (whole_number z) ∙ ap (option_map Typed) is.value
literal_plain (values.Dint z) is = behind_dint (number_text z) ∙ ap (typed_literal types.Dint) (whole_number z) ∙ ap (option_map Typed) is.value
literal_plain (values.Lint z) is = behind_lint (number_text z) ∙ ap (typed_literal types.Lint) (whole_number z) ∙ ap (option_map Typed) is.value
literal_plain (values.Time z) is = behind_time (number_text z ++ ms) ∙ ap (typed_literal types.Time) (time_number z) ∙ ap (option_map Typed) is.value
literal_plain (values.Real r) is = let known = is.known in absurd cc
literal_plain (values.Word n) is = let known = is.known in absurd cc
literal_plain (values.Dword n) is = let known = is.known in absurd cc

-- ---- literals of extended texts

-- a literal of a type of plain texts is the same
extended_int : (t : List ℕ) → extended_literal_of (codes "INT#" ++ t) ≡ literal_of (codes "INT#" ++ t)
unfolding spells
extended_int t = let e : ltb 3 (length (codes "INT#" ++ t)) ≡ true = lt-ltb 3 (length (codes "INT#" ++ t)) (omega arith) in rw e refl

extended_dint : (t : List ℕ) → extended_literal_of (codes "DINT#" ++ t) ≡ literal_of (codes "DINT#" ++ t)
unfolding spells
extended_dint t = let e : ltb 4 (length (codes "DINT#" ++ t)) ≡ true = lt-ltb 4 (length (codes "DINT#" ++ t)) (omega arith) in rw e refl

extended_lint : (t : List ℕ) → extended_literal_of (codes "LINT#" ++ t) ≡ literal_of (codes "LINT#" ++ t)
unfolding spells
extended_lint t = let e : ltb 4 (length (codes "LINT#" ++ t)) ≡ true = lt-ltb 4 (length (codes "LINT#" ++ t)) (omega arith) in rw e refl

extended_time : (t : List ℕ) → extended_literal_of (codes "T#" ++ t) ≡ literal_of (codes "T#" ++ t)
unfolding spells
extended_time t = let e : ltb 1 (length (codes "T#" ++ t)) ≡ true = lt-ltb 1 (length (codes "T#" ++ t)) (omega arith) in rw e refl

behind_real : (t : List ℕ) → extended_literal_of (codes "REAL#" ++ t) ≡ typed_real (real_literal t)
unfolding spells
behind_real t = let e : ltb 4 (length (codes "REAL#" ++ t)) ≡ true = lt-ltb 4 (length (codes "REAL#" ++ t)) (omega arith) in rw e refl

behind_word : (t : List ℕ) → extended_literal_of (codes "WORD#" ++ t) ≡ typed_literal types.Word (whole_by integer_of t)
unfolding spells
behind_word t = let e : ltb 4 (length (codes "WORD#" ++ t)) ≡ true = lt-ltb 4 (length (codes "WORD#" ++ t)) (omega arith) in rw e refl

behind_double_word : (t : List ℕ) → extended_literal_of (codes "DWORD#" ++ t) ≡ typed_literal types.Dword (whole_by integer_of t)
unfolding spells
behind_double_word t = let e : ltb 5 (length (codes "DWORD#" ++ t)) ≡ true = lt-ltb 5 (length (codes "DWORD#" ++ t)) (omega arith) in rw e refl

-- what plain texts can say
said_plainly : (v : Value) → IsValue v → may_keep (newest dialects.Plain) v ≡ true → literal_of (literal_text v) ≡ Some (Typed v)
said_plainly v value known = literal_plain v (record { value = value; known = known })

literal_extended : (v : Value) → IsValue v → extended_literal_of (literal_text v) ≡ Some (Typed v)
literal_extended (values.Bool true) is = said_plainly (values.Bool true) is refl
literal_extended (values.Bool false) is = said_plainly (values.Bool false) is refl
literal_extended (values.Int z) is = extended_int (number_text z) ∙ said_plainly (values.Int z) is refl
literal_extended (values.Dint z) is = extended_dint (number_text z) ∙ said_plainly (values.Dint z) is refl
literal_extended (values.Lint z) is = extended_lint (number_text z) ∙ said_plainly (values.Lint z) is refl
literal_extended (values.Time z) is = extended_time (number_text z ++ ms) ∙ said_plainly (values.Time z) is refl
literal_extended (values.Real r) is = behind_real (real_text r) ∙ ap typed_real (reads_back r)
literal_extended (values.Word n) is = behind_word (codes "16#" ++ hex_word n) ∙ ap (typed_literal types.Word) (word_whole n (bits_small (2 ^ 16) values.Word n (values.Word n) is)) ∙ ap (option_map Typed) is
literal_extended (values.Dword n) is = behind_double_word (codes "16#" ++ hex_double n) ∙ ap (typed_literal types.Dword) (double_word_whole n (bits_small (2 ^ 32) values.Dword n (values.Dword n) is)) ∙ ap (option_map Typed) is

-- ---- the whole

pub literal_again : (dialect : Dialect) (v : Value) → IsSayable dialect v → literal_in dialect (literal_text v) ≡ Some (Typed v)
literal_again dialects.Plain v is = literal_plain v is
literal_again dialects.Extended v is = literal_extended v is.value
